use Rattle.std.proofs.Common.{◌≤◌, length, sym, refl, arith, rules}
use Rattle.interface.proofs.Reach.{back_refuses, back_keeps}
use Rattle.keepers.specs.Rings.{items}
use Rattle.keepers.specs.Keeping.{kept_by_trails}
use Rattle.keepers.proofs.Undone.{stuck_none, stuck_failed, undone_more, undo_failed, undo_done}
use Rattle.keepers.proofs.trails.TrailsKeeper.go_back.Goals as goal

pub returns-in_err-trail : goal.returns-in_err-trail
returns-in_err-trail g c =
    let k = c.args.self.now in
    let ss = (kept_by_trails g.G.Game.undone (g.G.Game.words k.game) k.trails).states in
    let long = stuck_none g.G.Game.undone ss (g.G.Game.words c.loop-k.game) (items k.trails) c.loop-k.k c.loop-k.invariant (search rules) in
    let short : length ss ≤ c.args.frames = omega arith in
    let refuses = back_refuses c.args.frames ss short in
    record { answer = search rules; states = sym (back_keeps c.args.frames ss short); same = λ _. refl }

pub returns-in_err-map_err : goal.returns-in_err-map_err
returns-in_err-map_err g c =
    let k = c.args.self.now in
    let ss = (kept_by_trails g.G.Game.undone (g.G.Game.words k.game) k.trails).states in
    let none = undo_failed _ c.undo.result c.undo.ensures.answer (sym c.in_err-map_err.ensures.variant) in
    let long = stuck_failed g.G.Game.undone ss (g.G.Game.words c.loop-k.game) (items k.trails) c.loop-k.k c.in_ok-trail.trail c.loop-k.invariant (search rules) none in
    let short : length ss ≤ c.args.frames = omega arith in
    let refuses = back_refuses c.args.frames ss short in
    record { answer = search rules; states = sym (back_keeps c.args.frames ss short); same = λ _. refl }

pub loop-k-preserved : goal.loop-k-preserved
loop-k-preserved g c =
    let k = c.args.self.now in
    let ss = (kept_by_trails g.G.Game.undone (g.G.Game.words k.game) k.trails).states in
    let done = undo_done _ c.undo.result _ _ c.undo.ensures.answer (sym c.in_ok-map_err.ensures.variant) c.undo.ensures.state in
    undone_more g.G.Game.undone ss (g.G.Game.words c.loop-k.game) _ (items k.trails) c.loop-k.k c.in_ok-trail.trail c.loop-k.invariant (search rules) done
