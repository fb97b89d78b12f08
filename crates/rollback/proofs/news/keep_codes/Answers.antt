use Rattle.std.proofs.Common.{◌-◌, sym, ap, ◌∙◌, arith}
use Rattle.rollback.specs.Inputs.{sent, put_all}
use Rattle.rollback.specs.Meanings.{codes_in}
use Rattle.rollback.proofs.Puts.{may_from, next_one}
use Rattle.rollback.proofs.Search.{put_more, put_none}
use Rattle.rollback.proofs.news.keep_codes.Goals as goal

pub loop-frame-init : goal.loop-frame-init
loop-frame-init g c =
    let f = sent g.I.InputKind.reads g.I.InputKind.idle (codes_in c.args.datagram.now) c.args.datagram.now.start in
    (sym c.next-frame.ensures, c.requires.whole, omega arith, ap (λ k. put_all c.args.slots.now k (c.end_of-end.result - k) f) c.next-frame.ensures)

pub loop-frame-preserved : goal.loop-frame-preserved
loop-frame-preserved g c =
    let f = sent g.I.InputKind.reads g.I.InputKind.idle (codes_in c.args.datagram.now) c.args.datagram.now.start in
    let at = c.loop-frame.invariant.0 in
    let may = may_from c.loop-frame.slots c.loop-frame.queue.next c.loop-frame.frame c.loop-frame.invariant.1 (omega arith) (omega arith) (omega arith) in (
      next_one c.loop-frame.queue.next c.put.new.self.next c.loop-frame.frame _ at may c.put.ensures.next,
      c.put.auto.slots ∙ c.loop-frame.invariant.1,
      omega (arith, c.loop-frame.invariant.2),
      put_more f c.loop-frame.slots c.put.new.slots c.loop-frame.frame c.end_of-end.result c.sent_at.result _ c.loop-frame-test.true may c.sent_at.ensures c.put.ensures.slots ∙ c.loop-frame.invariant.3,
    )

pub returns : goal.returns
returns g c =
    let f = sent g.I.InputKind.reads g.I.InputKind.idle (codes_in c.args.datagram.now) c.args.datagram.now.start in
    let at = c.loop-frame.invariant.0 in
    record {
      slots = sym (put_none f c.loop-frame.slots c.loop-frame.frame c.end_of-end.result c.loop-frame-test.false) ∙ c.loop-frame.invariant.3 ∙ ap (λ e. put_all c.args.slots.now c.args.queue.now.next (e - c.args.queue.now.next) f) c.end_of-end.ensures;
      next = let top = c.loop-frame.invariant.2 in omega arith;
    }
