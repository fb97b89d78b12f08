use Rattle.std.proofs.Common.{arith}
use Rattle.plain.proofs.Counting.{counts_hold, codes_within}
use Rattle.plain.proofs.count_laws.Goals as goal

pub returns : goal.returns
returns g c =
    record {
      counts = counts_hold;
      codes = λ r ts k inside. let few = codes_within r ts k inside in omega arith;
    }
