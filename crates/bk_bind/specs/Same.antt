-- Formulas that mean the same.
use Rattle.std.specs.Prelude.{◌≡◌}
use Rattle.bk_form.specs.Formula.{Formula}
use Rattle.bk_form.specs.Search.{Finder}
use Rattle.bk_form.specs.Environment.{Environment}
use Rattle.bk_form.specs.Meaning.{meaning}

-- the two have one meaning: they stand for the same kind of thing, and have one value, one truth and the same values within them
abbrev pub MeanSame : Finder → Environment → Formula → Formula → Type 0
MeanSame find e a b = meaning find e a ≡ meaning find e b
