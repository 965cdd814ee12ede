-- What follows and what does not, as statements.
use Rattle.std.specs.Prelude.{◌≡◌, ℕ, suc, ◌<◌, length}
use Rattle.bk_form.specs.Search.{Finder, IsSearch}
use Rattle.bk_dev.specs.Development.{Development}
use Rattle.bk_dev.specs.Facts.{IsDevelopment, IsLawful, LastIsFlat, OnlyLastIsImplementation}
use Rattle.bk_dev.specs.B0.{IsB0Development}
use Rattle.bk_dev.specs.Claims.{Keeps, Carries, ValuesMeet, LastCarriesFromEqual}
use Rattle.bk_dev.specs.Counter.{counter}
use Rattle.bk_b0.specs.Translation.{translation}
use Rattle.bk_code.specs.Checks.{IsLoadable}
use Rattle.bk_code.specs.declared.image.Image.{Image}
use Rattle.bk_sim.specs.Follows.{HasOperations, OpensWell, CallsGoWell, Follows}
use Rattle.bk_sim.specs.CounterCode.{counter_code}
use Rattle.bk_sim.specs.Exchange.{exchange}
use Rattle.bk_sim.specs.Tower.{tower}
use Rattle.bk_sim.specs.Settling.{settling, settling_code, settled, unsettled, to_the_test, behind_the_start, onwards}
use Rattle.bk_sim.specs.Within.{EndsWithoutLoops}
use Rattle.bk_dev.specs.Flattened.{flattened}

-- code that opens well and whose calls go well one by one follows: sessions need nothing more
abbrev pub CallsDecide : Type 0
CallsDecide = (find : Finder) (dev : Development) (image : Image) → HasOperations dev image →
    OpensWell find dev image → CallsGoWell find dev image → Follows find dev image

-- it is in B0, the constants' values meet the properties, the machine keeps its invariant, and each level carries the one above
pub record IsCarried (find : Finder) (dev : Development) : Type 0 where
  pub in_b0 : IsB0Development dev
  pub values : ValuesMeet find dev
  pub keeps : Keeps find dev
  pub carries : (j : ℕ) → suc j < length dev.levels → Carries find dev j

-- of a lawful development in B0, with a chain of any length, an implementation below an implementation too, with || in the
-- levels above or without: where the machine keeps its invariant, each level carries the one above and the constants' values
-- meet the properties, the translation follows the machine, and what has no loop ends within its code
pub record LawfulFollows : Type 0 where
  pub follows : (find : Finder) (dev : Development) → IsLawful dev → IsCarried find dev → Follows find dev (translation dev)
  pub ends : (find : Finder) (dev : Development) → IsLawful dev → IsCarried find dev → EndsWithoutLoops find dev (translation dev)

-- a lawful development in B0 whose constants' values meet the properties, whose machine keeps its invariant, and each level of which
-- carries the one above, but the last one only from equal values
pub record CarriesToLast (find : Finder) (dev : Development) : Type 0 where
  pub lawful : IsLawful dev
  pub in_b0 : IsB0Development dev
  pub values : ValuesMeet find dev
  pub keeps : Keeps find dev
  pub carries : (j : ℕ) → suc (suc j) < length dev.levels → Carries find dev j
  pub last_carries : LastCarriesFromEqual find (flattened dev)

-- its translation follows it too
pub record EqualFollows : Type 0 where
  pub follows : (find : Finder) (dev : Development) → CarriesToLast find dev → Follows find dev (translation dev)
  pub ends : (find : Finder) (dev : Development) → CarriesToLast find dev → EndsWithoutLoops find dev (translation dev)

-- the headline, for every development in B0: where the machine keeps its invariant, each level carries the one above and the constants'
-- values meet the properties, the translation follows the machine
abbrev pub B0Follows : Type 0
B0Follows = (find : Finder) (dev : Development) → IsDevelopment dev → IsCarried find dev → Follows find dev (translation dev)

-- what has no loop ends within its code: each call of an operation without a loop is done with a fuel equal to the length of its code
abbrev pub B0Ends : Type 0
B0Ends = (find : Finder) (dev : Development) → IsDevelopment dev → IsCarried find dev → EndsWithoutLoops find dev (translation dev)

-- the counter meets what the headline asks
abbrev pub CounterIsCarried : Type 0
CounterIsCarried = (find : Finder) → ValuesMeet find counter × Keeps find counter × Carries find counter 0

-- the counter's translation follows it
abbrev pub TranslationFollows : Type 0
TranslationFollows = (find : Finder) → Follows find counter (translation counter)

-- and what has no loop, which is all of it, ends within its code
abbrev pub CounterEnds : Type 0
CounterEnds = (find : Finder) → EndsWithoutLoops find counter (translation counter)

-- code that stores 9 for 10 does not follow the counter
abbrev pub NineDoesNotFollow : Type 0
NineDoesNotFollow = (find : Finder) → Follows find counter (counter_code 9) → ⊥

-- where no || stands in the last level, whatever follows the flattened development follows the development
abbrev pub FollowedWhereFlattened : Type 0
FollowedWhereFlattened = (find : Finder) (dev : Development) → IsLawful dev → LastIsFlat dev →
    (image : Image) → Follows find (flattened dev) image → Follows find dev image

-- the exchange, with || at the machine, and with a fill, VAR, a loop and an array that is read
-- in its code, meets every premise, so that its translation follows it; the loader takes it
pub record ExchangeIsFollowed : Type 0 where
  pub facts : IsDevelopment exchange
  pub in_b0 : IsB0Development exchange
  pub meets : (find : Finder) → ValuesMeet find exchange
  pub keeps : (find : Finder) → IsSearch find → Keeps find exchange
  pub carries : (find : Finder) → IsSearch find → (j : ℕ) → suc j < length exchange.levels → Carries find exchange j
  pub follows : (find : Finder) → IsSearch find → Follows find exchange (translation exchange)
  pub ends : (find : Finder) → IsSearch find → EndsWithoutLoops find exchange (translation exchange)
  pub loads : IsLoadable (translation exchange)

-- the settling development is in B0, and its code is this; code that gives n what the local held before does not follow it, nor does
-- code whose loop comes back one instruction after the start of its test, nor does code whose loop does not come back; the loader
-- takes the last
pub record WrongCodesDoNotFollow : Type 0 where
  pub facts : IsDevelopment settling
  pub in_b0 : IsB0Development settling
  pub right_code : translation settling ≡ settling_code settled to_the_test
  pub old_value : (find : Finder) → Follows find settling (settling_code unsettled to_the_test) → ⊥
  pub short_way_back : (find : Finder) → Follows find settling (settling_code settled behind_the_start) → ⊥
  pub one_turn : (find : Finder) → Follows find settling (settling_code settled onwards) → ⊥
  pub loads : IsLoadable (settling_code settled onwards)

-- the tower, in which an implementation stands below an implementation, so that it is no development that is read, is lawful and meets
-- every premise of the law on lawful developments: its last level's translation follows the machine and ends within its code
pub record TowerIsFollowed : Type 0 where
  pub lawful : IsLawful tower
  pub no_development : OnlyLastIsImplementation tower → ⊥
  pub in_b0 : IsB0Development tower
  pub meets : (find : Finder) → ValuesMeet find tower
  pub keeps : (find : Finder) → Keeps find tower
  pub carries : (find : Finder) (j : ℕ) → suc j < length tower.levels → Carries find tower j
  pub follows : (find : Finder) → Follows find tower (translation tower)
  pub ends : (find : Finder) → EndsWithoutLoops find tower (translation tower)
