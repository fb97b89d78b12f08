use Rattle.std.proofs.Common.{◌-◌, Some, refl, sym, ◌∙◌}
use Rattle.std.specs.List.{between}
use Rattle.speed.specs.Places.{sides}
use Rattle.speed.specs.Lawful.{undrawn}
use Rattle.speed.proofs.Sets.{marked_on, none_on, marked_in_play}
use Rattle.speed.proofs.lawful.mark_in_play.Goals as goal

pub returns-in_err-hands : goal.returns-in_err-hands
returns-in_err-hands c =
    let w = c.args.words.now in
    let none = sym c.mark.ensures ∙ c.in_err-hands.was in
    c.from_residual.ensures ∙ sym (marked_in_play w (Some 0) ∙ none_on _ (between 65 67 w) (none_on _ (between (50 - sides w) 50 w) (none_on _ (between (45 - sides w) 45 w) (none_on _ (undrawn w 1) (none_on _ (undrawn w 0) none)))))

pub returns-in_err-first : goal.returns-in_err-first
returns-in_err-first c =
    let w = c.args.words.now in
    let hands = sym c.mark.ensures ∙ c.in_ok-hands.was in
    let none = marked_on _ (undrawn w 0) _ _ _ _ hands c.last.ensures c.mark-2.ensures c.in_err-first.was in
    c.from_residual-in_err-first.ensures ∙ sym (marked_in_play w (Some 0) ∙ none_on _ (between 65 67 w) (none_on _ (between (50 - sides w) 50 w) (none_on _ (between (45 - sides w) 45 w) (none_on _ (undrawn w 1) none))))

pub returns-in_err-second : goal.returns-in_err-second
returns-in_err-second c =
    let w = c.args.words.now in
    let hands = sym c.mark.ensures ∙ c.in_ok-hands.was in
    let first = marked_on _ (undrawn w 0) _ _ _ _ hands c.last.ensures c.mark-2.ensures c.in_ok-first.was in
    let none = marked_on _ (undrawn w 1) _ _ _ _ first c.last-2.ensures c.mark-3.ensures c.in_err-second.was in
    c.from_residual-in_err-second.ensures ∙ sym (marked_in_play w (Some 0) ∙ none_on _ (between 65 67 w) (none_on _ (between (50 - sides w) 50 w) (none_on _ (between (45 - sides w) 45 w) none)))

pub returns-in_err-left : goal.returns-in_err-left
returns-in_err-left c =
    let w = c.args.words.now in
    let hands = sym c.mark.ensures ∙ c.in_ok-hands.was in
    let first = marked_on _ (undrawn w 0) _ _ _ _ hands c.last.ensures c.mark-2.ensures c.in_ok-first.was in
    let second = marked_on _ (undrawn w 1) _ _ _ _ first c.last-2.ensures c.mark-3.ensures c.in_ok-second.was in
    let none = marked_on _ (between (45 - sides w) 45 w) _ _ _ _ second c.last-3.ensures c.mark-4.ensures c.in_err-left.was in
    c.from_residual-in_err-left.ensures ∙ sym (marked_in_play w (Some 0) ∙ none_on _ (between 65 67 w) (none_on _ (between (50 - sides w) 50 w) none))

pub returns-in_err-right : goal.returns-in_err-right
returns-in_err-right c =
    let w = c.args.words.now in
    let hands = sym c.mark.ensures ∙ c.in_ok-hands.was in
    let first = marked_on _ (undrawn w 0) _ _ _ _ hands c.last.ensures c.mark-2.ensures c.in_ok-first.was in
    let second = marked_on _ (undrawn w 1) _ _ _ _ first c.last-2.ensures c.mark-3.ensures c.in_ok-second.was in
    let left = marked_on _ (between (45 - sides w) 45 w) _ _ _ _ second c.last-3.ensures c.mark-4.ensures c.in_ok-left.was in
    let none = marked_on _ (between (50 - sides w) 50 w) _ _ _ _ left c.last-4.ensures c.mark-5.ensures c.in_err-right.was in
    c.from_residual-in_err-right.ensures ∙ sym (marked_in_play w (Some 0) ∙ none_on _ (between 65 67 w) none)

pub returns : goal.returns
returns c =
    let w = c.args.words.now in
    let hands = sym c.mark.ensures ∙ c.in_ok-hands.was in
    let first = marked_on _ (undrawn w 0) _ _ _ _ hands c.last.ensures c.mark-2.ensures c.in_ok-first.was in
    let second = marked_on _ (undrawn w 1) _ _ _ _ first c.last-2.ensures c.mark-3.ensures c.in_ok-second.was in
    let left = marked_on _ (between (45 - sides w) 45 w) _ _ _ _ second c.last-3.ensures c.mark-4.ensures c.in_ok-left.was in
    let right = marked_on _ (between (50 - sides w) 50 w) _ _ _ _ left c.last-4.ensures c.mark-5.ensures c.in_ok-right.was in
    sym (marked_in_play w (Some 0) ∙ marked_on _ (between 65 67 w) _ (between 65 67 w) _ _ right refl c.mark-6.ensures refl)
