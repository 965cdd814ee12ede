use Rattle.std.proofs.Common.{◌≡◌, refl, ap, arith, inl, inr}
use Rattle.std.specs.Prelude.{codes, Option, Some}
use Rattle.bk_val.specs.ValueType.{ValueType, int_type, pair_type, set_type}
use Rattle.bk_form.specs.Formula.{variable}
use Rattle.bk_raw.specs.Meaning.Names.{seen}
use Rattle.bk_show.specs.Stands.{Stands}
use Rattle.std.specs.Fmt.{digits}
use Rattle.bk_show.specs.Examples.{table, scope, sample}
use Rattle.bk_show.specs.Readable.{IsPlainName, IsLevelName, IsReadable}
use Rattle.bk_show.proofs.Begun.{word-identifier}
use Rattle.bk_show.proofs.laws.examples.Goals as goal

pub returns-clause-texts : goal.returns-clause-texts
unfolding digits
returns-clause-texts c = record { whole = refl; composition = refl; chain = refl; turned = refl; single = refl; image = refl; apply = refl; negative = refl; quantifier = refl; comprehension = refl; lambda = refl; arrow = refl }

letter-b : IsPlainName (codes "b")
letter-b = (word-identifier (codes "b") refl, refl)

letter-n : IsPlainName (codes "n")
letter-n = (word-identifier (codes "n") refl, refl)

letter-s : IsPlainName (codes "S")
letter-s = (word-identifier (codes "S") refl, refl)

level-r : IsLevelName (codes "r$1")
unfolding digits
level-r = (codes "r", 1, refl, word-identifier (codes "r") refl, omega arith)

sample-named : IsReadable table 0 sample
sample-named = ((letter-s, tt), omega arith, ((tt, tt), omega arith, ((inl letter-b, omega arith), (((inr level-r, inl letter-n), omega arith), (omega arith, letter-s)))))

some-type : (t u : ValueType) → ◌≡◌ {A = Option ValueType} (Some t) (Some u) → t ≡ u
some-type t u e = cc

variable-r : Stands table scope (variable 0)
variable-r t e = ap (λ u. seen (variable 0) u) (some-type (set_type (pair_type int_type int_type)) t e)

variable-n : Stands table scope (variable 2)
variable-n t e = ap (λ u. seen (variable 2) u) (some-type int_type t e)

pub returns-clause-premises : goal.returns-clause-premises
unfolding digits
returns-clause-premises c = record {
  no_locals = (tt, (tt, (tt, (tt, (tt, (tt, tt))))));
  types = refl;
  binds = (tt, (tt, ((tt, tt), (((tt, tt), tt), (tt, tt)))));
  named = sample-named;
  stands = ((refl, tt), ((tt, tt), ((refl, tt), (((variable-r, variable-n), tt), (tt, refl)))));
  text = refl;
}
