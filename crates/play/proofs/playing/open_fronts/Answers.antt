use Rattle.refine.specs.Memory.{slot_lists}
use Rattle.play.proofs.Wholes.{opened_again, own_whole, has_own}
use Rattle.play.proofs.playing.open_fronts.Goals as goal

pub returns : goal.returns
returns g c log =
    opened_again g.K0.Keeper.kept g.K1.Keeper.kept (g.G.Game.opening c.args.seed) c.args.match_number c.open_match.result (slot_lists c.args.own_0.now c.args.other_0.now c.args.digests_0.now) (slot_lists c.open_match.new.own_0 c.open_match.new.other_0 c.open_match.new.digests_0) (slot_lists c.args.own_1.now c.args.other_1.now c.args.digests_1.now) (slot_lists c.open_match.new.own_1 c.open_match.new.other_1 c.open_match.new.digests_1) log c.requires.first c.requires.second (c.open_match.ensures log)

pub open_match-requires : goal.open_match-requires
open_match-requires g c = record { first = own_whole (slot_lists c.args.own_0.now c.args.other_0.now c.args.digests_0.now) c.requires.first; second = own_whole (slot_lists c.args.own_1.now c.args.other_1.now c.args.digests_1.now) c.requires.second }

pub slice_bounds-open_match-end-2 : goal.slice_bounds-open_match-end-2
slice_bounds-open_match-end-2 g c = (has_own (slot_lists c.args.own_0.now c.args.other_0.now c.args.digests_0.now) c.requires.first).0

pub slice_bounds-open_match-end-4 : goal.slice_bounds-open_match-end-4
slice_bounds-open_match-end-4 g c = (has_own (slot_lists c.args.own_0.now c.args.other_0.now c.args.digests_0.now) c.requires.first).1

pub slice_bounds-open_match-end-6 : goal.slice_bounds-open_match-end-6
slice_bounds-open_match-end-6 g c = (has_own (slot_lists c.args.own_0.now c.args.other_0.now c.args.digests_0.now) c.requires.first).2

pub slice_bounds-open_match-end-8 : goal.slice_bounds-open_match-end-8
slice_bounds-open_match-end-8 g c = (has_own (slot_lists c.args.own_1.now c.args.other_1.now c.args.digests_1.now) c.requires.second).0

pub slice_bounds-open_match-end-10 : goal.slice_bounds-open_match-end-10
slice_bounds-open_match-end-10 g c = (has_own (slot_lists c.args.own_1.now c.args.other_1.now c.args.digests_1.now) c.requires.second).1

pub slice_bounds-open_match-end-12 : goal.slice_bounds-open_match-end-12
slice_bounds-open_match-end-12 g c = (has_own (slot_lists c.args.own_1.now c.args.other_1.now c.args.digests_1.now) c.requires.second).2
