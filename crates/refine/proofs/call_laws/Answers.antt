use Rattle.std.proofs.Common.{sym, subst, arith}
use Rattle.plain.specs.Match.{run}
use Rattle.plain.proofs.Counting.{sound}
use Rattle.plain.proofs.Replaying.{replays}
use Rattle.refine.specs.Setup.{rules}
use Rattle.refine.specs.Outcomes.{as_turn}
use Rattle.refine.specs.Laws.{match_answers, OneOf}
use Rattle.refine.proofs.Calling.{goes_on}
use Rattle.refine.proofs.Refusing.{refused_keeps, usual}
use Rattle.refine.proofs.call_laws.Goals as goal

pub returns : goal.returns
returns g c =
    record {
      standing = λ a lawful match_number ts m b n call stands brings room.
          let r = rules a in
          let goes = goes_on a lawful match_number ts m b n stands brings call room in
          let few = ((replays r 8 (omega arith) ts).of_a_turn (as_turn b n call)).few in
          record {
            goes_on = goes;
            few_frames = omega (arith, goes.replays);
            usual_answer = subst (λ k. OneOf match_answers k) (sym goes.answers) (usual r (run r ts) (as_turn b n call) (sound r ts).counts);
          };
      refused = refused_keeps;
    }
