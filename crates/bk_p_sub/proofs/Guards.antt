-- Words with a test behind them, as the code reads them.
use Rattle.std.specs.Prelude.{Bool, ◌≡◌, ℕ, ◌<◌, List, ◌∷◌, length, refl}
use Rattle.std.proofs.Common.{arith, sym, subst}
use Rattle.bk_form.specs.declared.token.Token.{Token}
use Rattle.bk_form.specs.declared.token.TokenKind.TheVariants.{Word}
use Rattle.bk_raw.specs.Grammar.Pieces.{JustWord, ◌⌢◌}
use Rattle.bk_raw.specs.Grammar.Spelling.{Spells}
use Rattle.bk_raw.specs.Trees.SubTree.{sub_pre, sub_assert}
use Rattle.bk_p_expr.specs.Fronts.{Nothing}
use Rattle.bk_p_sub.specs.declared.term.Term.{Term}
use Rattle.bk_p_sub.specs.Found.{Atom, FoundBefore, Opens, guard_begins, guard_end, guard_kind}
use Rattle.bk_p_sub.specs.declared.opening.Opening.{Opening}
use Rattle.bk_p_sub.specs.declared.opening.Guard.{Guard}
use Rattle.bk_p_sub.specs.declared.opening.Guard.TheVariants.{Pre, Assert, If, Select, While}
use Rattle.bk_p_sub.proofs.Openings.{pre_opens, assert_opens, if_opens, select_opens, while_opens, pre_nothing, assert_nothing, if_nothing, select_nothing, while_nothing}

guard_opens : (calls : Bool) (g : Guard) (t : Token) (rest inside : List Token) (test : Term) → guard_kind g ≡ t.kind → length inside < length rest → FoundBefore (Word (guard_end g)) rest test inside → Opens calls (t ∷ rest) (guard_begins g test) inside
guard_opens calls Pre t rest inside test e l f = (sub_pre f.0, (f.0, refl, f.2), pre_opens calls t rest inside f.0 (omega (arith, l)) (sym e) f.1)
guard_opens calls Assert t rest inside test e l f = (sub_assert f.0, (f.0, refl, f.2), assert_opens calls t rest inside f.0 (omega (arith, l)) (sym e) f.1)
guard_opens calls If t rest inside test e l f = (f.0, f.2, if_opens calls t rest inside f.0 (omega (arith, l)) (sym e) f.1)
guard_opens calls Select t rest inside test e l f = (f.0, f.2, select_opens calls t rest inside f.0 (omega (arith, l)) (sym e) f.1)
guard_opens calls While t rest inside test e l f = (f.0, f.2, while_opens calls t rest inside f.0 (omega (arith, l)) (sym e) f.1)

nothing_guarded : (calls : Bool) (g : Guard) (t : Token) (rest : List Token) → guard_kind g ≡ t.kind → Nothing (λ p. Spells p ⌢ JustWord (guard_end g)) rest → Nothing (Atom calls) (t ∷ rest)
nothing_guarded calls Pre t rest e n = pre_nothing calls t rest (sym e) n
nothing_guarded calls Assert t rest e n = assert_nothing calls t rest (sym e) n
nothing_guarded calls If t rest e n = if_nothing calls t rest (sym e) n
nothing_guarded calls Select t rest e n = select_nothing calls t rest (sym e) n
nothing_guarded calls While t rest e n = while_nothing calls t rest (sym e) n

-- with the word behind the test as the code has it, and what it makes
pub guard_found : (calls : Bool) (g : Guard) (t : Token) (rest inside : List Token) (test : Term) (end : ℕ) (made : Opening) → guard_kind g ≡ t.kind → end ≡ guard_end g → made ≡ guard_begins g test → length inside < length rest → FoundBefore (Word end) rest test inside → Opens calls (t ∷ rest) made inside
guard_found calls g t rest inside test end made e same m l f = subst (λ o. Opens calls (t ∷ rest) o inside) (sym m) (guard_opens calls g t rest inside test e l (subst (λ n. FoundBefore (Word n) rest test inside) same f))

pub guard_none : (calls : Bool) (g : Guard) (t : Token) (rest : List Token) (end : ℕ) → guard_kind g ≡ t.kind → end ≡ guard_end g → Nothing (λ p. Spells p ⌢ JustWord end) rest → Nothing (Atom calls) (t ∷ rest)
guard_none calls g t rest end e same n = nothing_guarded calls g t rest e (subst (λ m. Nothing (λ p. Spells p ⌢ JustWord m) rest) same n)
