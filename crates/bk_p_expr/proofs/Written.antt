-- Which operator or word a token is.
use Rattle.std.specs.Prelude.{◌≡◌, ◌≢◌, Bool, true, false, cond, List, [], ◌∷◌, Option, None, Some, refl}
use Rattle.std.proofs.Common.{sym, ap, ◌∙◌}
use Rattle.std.proofs.lemmas.Bool.{eqb-true}
use Rattle.bk_form.specs.declared.token.TokenKind.{TokenKind}
use Rattle.bk_form.specs.declared.token.TokenKind.TheVariants.{Name, LevelName, BoundName, Number, Sign, Word}
use Rattle.bk_ops.specs.declared.sign.TheConstants.{POWER}
use Rattle.bk_raw.specs.declared.operator.InfixOp.TheVariants.{Power}
use Rattle.bk_p_expr.proofs.Choices.{some_same}
use Rattle.bk_raw.specs.Trees.Operators.{infix_kind, word_kind, constant_kind}
use Rattle.bk_raw.specs.Codes.OperatorCodes.{infix_operators, word_operators, constant_operators}
use Rattle.bk_raw.specs.declared.operator.InfixOp.{InfixOp}
use Rattle.bk_raw.specs.declared.operator.WordOp.{WordOp}
use Rattle.bk_raw.specs.declared.operator.Constant.{Constant}
use Rattle.bk_raw.specs.Grammar.Reading.{same_kind, first_with, infix_of, word_of, constant_of}
use Rattle.bk_raw.proofs.WrittenKinds.{infix_of-kind}

pub same_kind-is : (k l : TokenKind) → same_kind k l ≡ true → k ≡ l
same_kind-is (Sign op) (Sign other) e = ap (λ n. Sign n) (eqb-true op other e)
same_kind-is (Word op) (Word other) e = ap (λ n. Word n) (eqb-true op other e)
same_kind-is (Sign op) (Name text) e = cc
same_kind-is (Sign op) (LevelName text n) e = cc
same_kind-is (Sign op) (BoundName n) e = cc
same_kind-is (Sign op) (Number z) e = cc
same_kind-is (Sign op) (Word n) e = cc
same_kind-is (Word op) (Name text) e = cc
same_kind-is (Word op) (LevelName text n) e = cc
same_kind-is (Word op) (BoundName n) e = cc
same_kind-is (Word op) (Number z) e = cc
same_kind-is (Word op) (Sign n) e = cc
same_kind-is (Name text) l e = cc
same_kind-is (LevelName text n) l e = cc
same_kind-is (BoundName n) l e = cc
same_kind-is (Number z) l e = cc

chosen_written : {A : Type 0} (written : A → TokenKind) (kind : TokenKind) (b : Bool) (y x : A) (r : Option A) → (b ≡ true → written y ≡ kind) → (r ≡ Some x → written x ≡ kind) → cond b (Some y) r ≡ Some x → written x ≡ kind
chosen_written written kind true y x r h k e = ap written (sym (some_same y x e)) ∙ h refl
chosen_written written kind false y x r h k e = k e

first_with-is : {A : Type 0} (written : A → TokenKind) (xs : List A) (kind : TokenKind) (x : A) → first_with written xs kind ≡ Some x → written x ≡ kind
first_with-is written [] kind x e = cc
first_with-is written (y ∷ ys) kind x e = chosen_written written kind (same_kind (written y) kind) y x (first_with written ys kind) (same_kind-is (written y) kind) (first_with-is written ys kind x) e

-- the token that is read as an operator or a word is written so
pub infix_of-is : (kind : TokenKind) (o : InfixOp) → infix_of kind ≡ Some o → infix_kind o ≡ kind
infix_of-is kind o e = first_with-is infix_kind infix_operators kind o e

pub word_of-is : (kind : TokenKind) (o : WordOp) → word_of kind ≡ Some o → word_kind o ≡ kind
word_of-is kind o e = first_with-is word_kind word_operators kind o e

pub constant_of-is : (kind : TokenKind) (o : Constant) → constant_of kind ≡ Some o → constant_kind o ≡ kind
constant_of-is kind o e = first_with-is constant_kind constant_operators kind o e

not_some : {A : Type 0} (r : Option A) → ((x : A) → r ≡ Some x → ⊥) → r ≡ None
not_some None h = refl
not_some (Some x) h = absurd (h x refl)

pub word_of-none : (kind : TokenKind) → ((o : WordOp) → word_kind o ≢ kind) → word_of kind ≡ None
word_of-none kind h = not_some (word_of kind) (λ o e. h o (word_of-is kind o e))

pub constant_of-none : (kind : TokenKind) → ((o : Constant) → constant_kind o ≢ kind) → constant_of kind ≡ None
constant_of-none kind h = not_some (constant_of kind) (λ o e. h o (constant_of-is kind o e))

pub constant_of_none : (kind : TokenKind) → ((o : Constant) → constant_kind o ≢ kind) → constant_of kind ≡ None
constant_of_none kind h = constant_of-none kind h

pub infix_of-some : (kind : TokenKind) (o : InfixOp) → infix_kind o ≡ kind → infix_of kind ≡ Some o
infix_of-some kind o e = (λ i. infix_of (sym e i)) ∙ infix_of-kind o

pub not_true : (b : Bool) → (b ≡ true → ⊥) → b ≡ false
not_true false h = refl
not_true true h = absurd (h refl)

some_is_not : {A : Type 0} (r : Option A) (x : A) → r ≡ Some x → r ≡ None → ⊥
some_is_not r x e f = cc

-- a token that is no operator is no ** either
pub no_power : (kind : TokenKind) → infix_of kind ≡ None → same_kind kind (Sign POWER) ≡ false
no_power kind e = not_true (same_kind kind (Sign POWER)) (λ h. some_is_not (infix_of kind) Power (infix_of-some kind Power (sym (same_kind-is kind (Sign POWER) h))) e)
