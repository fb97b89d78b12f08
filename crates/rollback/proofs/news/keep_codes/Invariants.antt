use Rattle.std.proofs.Common.{◌≡◌, ◌-◌, ◌≤◌, max, length}
use Rattle.rollback.specs.Inputs.{sent, put_all}
use Rattle.rollback.specs.Meanings.{codes_in}
use Rattle.rollback.proofs.news.keep_codes.Given as goal

-- what is left to put from here makes the whole
abbrev pub invariant-loop-frame : goal.invariant-loop-frame
invariant-loop-frame g l =
    let f = sent g.I.InputKind.reads g.I.InputKind.idle (codes_in l.datagram) l.datagram.start in
    (l.queue.next ≡ l.frame) × (length l.slots ≡ 32) × (l.frame ≤ max l.initial.queue.next l.end)
    × (put_all l.slots l.frame (l.end - l.frame) f ≡ put_all l.initial.slots l.initial.queue.next (l.end - l.initial.queue.next) f)
