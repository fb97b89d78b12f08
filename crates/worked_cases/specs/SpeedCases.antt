-- Cases of Speed that the definitions compute.
use Rattle.std.specs.Prelude.{◌≡◌, true, false}
use Rattle.speed.specs.Rules.{fits}

-- on card 0, cards 12 and 14 fit; 2 and 13 do not
pub record FitsOnCard0 : Type 0 where
  pub twelve : fits 12 0 ≡ true
  pub fourteen : fits 14 0 ≡ true
  pub two : fits 2 0 ≡ false
  pub thirteen : fits 13 0 ≡ false
