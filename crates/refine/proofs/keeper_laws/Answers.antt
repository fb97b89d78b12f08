use Rattle.std.proofs.Common.{arith}
use Rattle.refine.proofs.Moments.{moments, lists_the_truth, lists_last}
use Rattle.refine.proofs.keeper_laws.Goals as goal

pub returns : goal.returns
returns g c =
    record {
      agree = moments;
      truth = lists_the_truth;
      listed = λ a match_number ts m stands s n low near. lists_last a match_number ts m stands s n low (omega arith);
    }
