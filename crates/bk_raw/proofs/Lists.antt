-- Lists with a divider between: what they lead to, and one way to take them apart.
use Rattle.std.proofs.Common.{◌≡◌, ℕ, true, false, List, [], ◌∷◌, ◌++◌, Some, None, refl, sym, ◌∙◌, ap, subst}
use Rattle.bk_form.specs.declared.token.Token.{Token}
use Rattle.bk_form.specs.declared.token.TokenKind.TheVariants.{Sign}
use Rattle.bk_raw.specs.Grammar.Pieces.{JustSign, ◌⌢◌, Divided}
use Rattle.bk_raw.proofs.Runs.{run}
use Rattle.bk_raw.proofs.Steps.{Piece, State, Stopper, step, stepped, Leads, leads-join, leads-just, leads-never}
use Rattle.bk_raw.proofs.Patterns.{same-token, same-piece, stops-just}
use Rattle.bk_raw.proofs.SubOne.{alone, nothing-token, stops-nothing}

-- ---- to the right

pub absent-then : (K : Piece) (ts : List Token) → ((λ us. us ≡ []) ⌢ K) ts → K ts
absent-then K ts h = subst K (sym (h.2 ∙ ap (λ f. f ++ h.1) h.3)) h.4

pub leads-absent : (stops : Stopper) (s : State) → Leads stops s s (λ ts. ts ≡ [])
leads-absent stops s ts h = subst (λ us. run (step stops) s us ≡ Some s) (sym h) refl

abbrev pub One : {A : Type 0} → (A → Piece) → Type 0
One {A} W = (x y : A) (ts : List Token) → W x ts → W y ts → x ≡ y

module _ {A : Type 0} (op : ℕ) (W : A → Piece) (stops : Stopper) where
  pub divided-leads : ((x : A) → Leads stops (0, false) (0, true) (W x)) → stepped stops 0 true (Sign op) ≡ Some (0, false) → (xs : List A) → Leads stops (0, false) (0, true) (Divided op W xs)
  divided-leads f j [] = leads-never stops (0, false) (0, true)
  divided-leads f j (x ∷ []) = f x
  divided-leads f j (x ∷ y ∷ ys) =
      leads-join stops (0, false) (0, true) (0, true) (W x) (JustSign op ⌢ Divided op W (y ∷ ys)) (f x)
      (leads-join stops (0, true) (0, false) (0, true) (JustSign op) (Divided op W (y ∷ ys)) (leads-just stops 0 true (0, false) (Sign op) j) (divided-leads f j (y ∷ ys)))

  pub one-divided : ((x : A) → Leads stops (0, false) (0, true) (W x)) → stepped stops 0 true (Sign op) ≡ None → One W → One (Divided op W)
  one-divided f s o [] ys ts h k = absurd h
  one-divided f s o (x ∷ xs) [] ts h k = absurd k
  one-divided f s o (x ∷ []) (y ∷ []) ts h k = ap (λ z. z ∷ []) (o x y ts h k)
  one-divided f s o (x ∷ []) (y ∷ z ∷ zs) ts h k =
      let c = same-piece stops (0, false) (0, true) (0, true) (W x) (W y) (λ us. us ≡ []) (JustSign op ⌢ Divided op W (z ∷ zs)) ts (f x) (f y) (stops-nothing stops (0, true)) (stops-just stops 0 true (Sign op) (Divided op W (z ∷ zs)) s) (alone (W x) ts h) k in
      absurd (nothing-token (Sign op) (Divided op W (z ∷ zs)) c.3)
  one-divided f s o (x ∷ z ∷ zs) (y ∷ []) ts h k =
      let c = same-piece stops (0, false) (0, true) (0, true) (W y) (W x) (λ us. us ≡ []) (JustSign op ⌢ Divided op W (z ∷ zs)) ts (f y) (f x) (stops-nothing stops (0, true)) (stops-just stops 0 true (Sign op) (Divided op W (z ∷ zs)) s) (alone (W y) ts k) h in
      absurd (nothing-token (Sign op) (Divided op W (z ∷ zs)) c.3)
  one-divided f s o (x ∷ w ∷ ws) (y ∷ z ∷ zs) ts h k =
      let c = same-piece stops (0, false) (0, true) (0, true) (W x) (W y) (JustSign op ⌢ Divided op W (w ∷ ws)) (JustSign op ⌢ Divided op W (z ∷ zs)) ts (f x) (f y) (stops-just stops 0 true (Sign op) (Divided op W (w ∷ ws)) s) (stops-just stops 0 true (Sign op) (Divided op W (z ∷ zs)) s) h k in
      let e = o x y c.0 c.1 c.2 in
      let d = same-token (Sign op) (Sign op) (Divided op W (w ∷ ws)) (Divided op W (z ∷ zs)) c.3.0 c.3.1 c.3.2 in
      let g = one-divided f s o (w ∷ ws) (z ∷ zs) d.1.0 d.1.1 d.1.2 in
      λ i. e i ∷ g i
