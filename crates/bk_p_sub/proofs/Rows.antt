-- One thing or more with a sign between, read from the left.
use Rattle.std.specs.Prelude.{◌≡◌, ◌⊎◌, ℕ, ◌≤◌, List, [], ◌∷◌, ◌++◌, length, true, false, None, refl}
use Rattle.std.proofs.Common.{inl, inr, arith, sym, ◌∙◌, ap, subst, append_assoc, append-nil, length-append}
use Rattle.bk_form.specs.declared.token.Token.{Token}
use Rattle.bk_form.specs.declared.token.TokenKind.TheVariants.{Sign}
use Rattle.bk_raw.specs.Grammar.Pieces.{Never, Absent, JustSign, ◌⌢◌, Divided}
use Rattle.bk_raw.proofs.Steps.{Piece, Stopper, stepped, Leads}
use Rattle.bk_raw.proofs.Patterns.{first}
use Rattle.bk_p_expr.specs.Fronts.{Longest, Nothing}
use Rattle.bk_p_sub.proofs.Steps.{stops_on_just, cut_off}

-- further ones, each behind a sign
abbrev pub Follow : {A : Type 0} → (A → Piece) → ℕ → List A → Piece
Follow Part op [] = Absent
Follow Part op (x ∷ xs) = JustSign op ⌢ Part x ⌢ Follow Part op xs

-- one or more
abbrev pub Row : {A : Type 0} → (A → Piece) → ℕ → List A → Piece
Row Part op [] = Never
Row Part op (x ∷ xs) = Part x ⌢ Follow Part op xs

-- what stands behind the rest that is read goes on with it
abbrev pub Further : {A : Type 0} → (A → Piece) → ℕ → List Token → List Token → Type 0
Further {A} Part op rest after = (x : A) × (xs : List A) × (back : List Token) × (rest ≡ back ++ after) × Follow Part op (x ∷ xs) back

-- these are read, up to this rest: another row ends no later, or goes on there
pub record RowSoFar {A : Type 0} (Part : A → Piece) (op : ℕ) (tokens : List Token) (xs : List A) (rest : List Token) : Type 0 where
  pub written : List Token
  pub splits : tokens ≡ written ++ rest
  pub spelled : Row Part op xs written
  pub reach : (ys : List A) (front after : List Token) → tokens ≡ front ++ after → Row Part op ys front → (length rest ≤ length after) ⊎ Further Part op rest after

follow_more : {A : Type 0} (Part : A → Piece) (op : ℕ) (xs : List A) (x : A) (w v : List Token) (t : Token) → Follow Part op xs w → t.kind ≡ Sign op → Part x v → Follow Part op (xs ++ x ∷ []) (w ++ t ∷ v)
follow_more Part op [] x w v t h e p = subst (λ us. Follow Part op (x ∷ []) (us ++ t ∷ v)) (sym h) (t ∷ [], v, refl, (t, refl, e), (v, [], sym (append-nil v), p, refl))
follow_more Part op (y ∷ ys) x w v t h e p =
    let m = h.4 in
    (h.0, h.1 ++ t ∷ v, ap (λ us. us ++ t ∷ v) h.2 ∙ append_assoc h.0 h.1 (t ∷ v), h.3, (m.0, m.1 ++ t ∷ v, ap (λ us. us ++ t ∷ v) m.2 ∙ append_assoc m.0 m.1 (t ∷ v), m.3, follow_more Part op ys x m.1 v t m.4 e p))

row_more : {A : Type 0} (Part : A → Piece) (op : ℕ) (xs : List A) (x : A) (w v : List Token) (t : Token) → Row Part op xs w → t.kind ≡ Sign op → Part x v → Row Part op (xs ++ x ∷ []) (w ++ t ∷ v)
row_more Part op [] x w v t h e p = absurd h
row_more Part op (y ∷ ys) x w v t h e p = (h.0, h.1 ++ t ∷ v, ap (λ us. us ++ t ∷ v) h.2 ∙ append_assoc h.0 h.1 (t ∷ v), h.3, follow_more Part op ys x h.1 v t h.4 e p)

module _ {A : Type 0} (Part : A → Piece) (op : ℕ) (stops : Stopper) (leads : (x : A) → Leads stops (0, false) (0, true) (Part x)) (one : (x y : A) (ts : List Token) → Part x ts → Part y ts → x ≡ y) (halts : stepped stops 0 true (Sign op) ≡ None) where
  reaches : (ts rest : List Token) (x y : A) (ys : List A) (front back after : List Token) → Longest Part ts x rest → ts ≡ (front ++ back) ++ after → Part y front → Follow Part op ys back → (length rest ≤ length after) ⊎ Further Part op rest after
  reaches ts rest x y [] front back after h e p f =
      inl (h.longest y front after (e ∙ append_assoc front back after ∙ ap (λ us. front ++ (us ++ after)) f) p)
  reaches ts rest x y (z ∷ zs) front back after h e p f =
      let c = cut_off Part stops leads one ts rest x y front back after h e p (stops_on_just stops (Sign op) (λ (q : A × List A). Part q.0 ⌢ Follow Part op q.1) halts (z, zs) back after f) in
      inr (z, zs, back, c.1, f)

  pub row_begins : (tokens rest : List Token) (x : A) → Longest Part tokens x rest → RowSoFar Part op tokens (x ∷ []) rest
  row_begins tokens rest x h = record {
    written = h.written;
    splits = h.splits;
    spelled = (h.written, [], sym (append-nil h.written), h.spelled, refl);
    reach = begun;
  }
    where
      begun : (ys : List A) (front after : List Token) → tokens ≡ front ++ after → Row Part op ys front → (length rest ≤ length after) ⊎ Further Part op rest after
      begun [] front after e k = absurd k
      begun (y ∷ ys) front after e k = reaches tokens rest x y ys k.0 k.1 after h (e ∙ ap (λ us. us ++ after) k.2) k.3 k.4

  pub row_goes_on : (tokens ts more rest : List Token) (t : Token) (xs : List A) (x : A) → RowSoFar Part op tokens xs ts → ts ≡ t ∷ more → t.kind ≡ Sign op → Longest Part more x rest → RowSoFar Part op tokens (xs ++ x ∷ []) rest
  row_goes_on tokens ts more rest t xs x s e k h = record {
    written = s.written ++ t ∷ h.written;
    splits = s.splits ∙ ap (λ us. s.written ++ us) (e ∙ ap (λ us. t ∷ us) h.splits) ∙ sym (append_assoc s.written (t ∷ h.written) rest);
    spelled = row_more Part op xs x s.written h.written t s.spelled k h.spelled;
    reach = λ ys front after f r. further after (s.reach ys front after f r);
  }
    where
      further : (after : List Token) → (length ts ≤ length after) ⊎ Further Part op ts after → (length rest ≤ length after) ⊎ Further Part op rest after
      further after (inl l) = inl (omega (arith, l, ap length e, ap length h.splits, length-append h.written rest))
      further after (inr f) =
          let g = first (Sign op) (Part f.0 ⌢ Follow Part op f.1) f.2 f.4 in
          let both : t ∷ more ≡ g.token ∷ (g.rest ++ after) = sym e ∙ f.3 ∙ ap (λ us. us ++ after) g.is in
          let behind : more ≡ g.rest ++ after = cc in
          let b = g.back in
          reaches more rest x f.0 f.1 b.0 b.1 after h (behind ∙ ap (λ us. us ++ after) b.2) b.3 b.4

  pub row_ends : (tokens rest : List Token) (xs : List A) → RowSoFar Part op tokens xs rest → ((t : Token) (more : List Token) → rest ≡ t ∷ more → t.kind ≡ Sign op → ⊥) → Longest (Row Part op) tokens xs rest
  row_ends tokens rest xs s n = record {
    written = s.written;
    splits = s.splits;
    spelled = s.spelled;
    longest = λ ys front after e k. ended after (s.reach ys front after e k);
  }
    where
      ended : (after : List Token) → (length rest ≤ length after) ⊎ Further Part op rest after → length rest ≤ length after
      ended after (inl l) = l
      ended after (inr f) =
          let g = first (Sign op) (Part f.0 ⌢ Follow Part op f.1) f.2 f.4 in
          absurd (n g.token (g.rest ++ after) (f.3 ∙ ap (λ us. us ++ after) g.is) g.same)

  pub row_ends_before : (tokens rest more : List Token) (t : Token) (xs : List A) → RowSoFar Part op tokens xs rest → rest ≡ t ∷ more → Nothing Part more → Longest (Row Part op) tokens xs rest
  row_ends_before tokens rest more t xs s e n = record {
    written = s.written;
    splits = s.splits;
    spelled = s.spelled;
    longest = λ ys front after f k. ended after (s.reach ys front after f k);
  }
    where
      ended : (after : List Token) → (length rest ≤ length after) ⊎ Further Part op rest after → length rest ≤ length after
      ended after (inl l) = l
      ended after (inr f) =
          let g = first (Sign op) (Part f.0 ⌢ Follow Part op f.1) f.2 f.4 in
          let both : t ∷ more ≡ g.token ∷ (g.rest ++ after) = sym e ∙ f.3 ∙ ap (λ us. us ++ after) g.is in
          let behind : more ≡ g.rest ++ after = cc in
          let b = g.back in
          absurd (n f.0 b.0 (b.1 ++ after) (behind ∙ ap (λ us. us ++ after) b.2 ∙ append_assoc b.0 b.1 after) b.3)

pub row_none : {A : Type 0} (Part : A → Piece) (op : ℕ) (tokens : List Token) → Nothing Part tokens → Nothing (Row Part op) tokens
row_none {A} Part op tokens n = none
  where
    none : (xs : List A) (front after : List Token) → tokens ≡ front ++ after → Row Part op xs front → ⊥
    none [] front after e k = k
    none (x ∷ xs) front after e k = n x k.0 (k.1 ++ after) (e ∙ ap (λ us. us ++ after) k.2 ∙ append_assoc k.0 k.1 after) k.3

-- ---- the same things written in another way
pub longest_as : {A B : Type 0} (P : A → Piece) (Q : B → Piece) (tokens rest : List Token) (x : A) (y : B) → Longest P tokens x rest → ((ts : List Token) → P x ts → Q y ts) → ((z : B) (ts : List Token) → Q z ts → (w : A) × P w ts) → Longest Q tokens y rest
longest_as P Q tokens rest x y h f g = record {
  written = h.written;
  splits = h.splits;
  spelled = f h.written h.spelled;
  longest = λ z front after e k. let w = g z front k in h.longest w.0 front after e w.1;
}

pub nothing_as : {A B : Type 0} (P : A → Piece) (Q : B → Piece) (tokens : List Token) → Nothing P tokens → ((z : B) (ts : List Token) → Q z ts → (w : A) × P w ts) → Nothing Q tokens
nothing_as P Q tokens n g z front after e k = let w = g z front k in n w.0 front after e w.1

alone : {A : Type 0} (Part : A → Piece) (op : ℕ) (x : A) (ts : List Token) → Part x ts → Row Part op (x ∷ []) ts
alone Part op x ts h = (ts, [], sym (append-nil ts), h, refl)

pub row_of_divided : {A : Type 0} (Part : A → Piece) (op : ℕ) (xs : List A) (ts : List Token) → Divided op Part xs ts → Row Part op xs ts
row_of_divided Part op [] ts h = h
row_of_divided Part op (x ∷ []) ts h = alone Part op x ts h
row_of_divided Part op (x ∷ y ∷ ys) ts h = let m = h.4 in (h.0, h.1, h.2, h.3, (m.0, m.1, m.2, m.3, row_of_divided Part op (y ∷ ys) m.1 m.4))

pub divided_of_row : {A : Type 0} (Part : A → Piece) (op : ℕ) (xs : List A) (ts : List Token) → Row Part op xs ts → Divided op Part xs ts
divided_of_row Part op [] ts h = h
divided_of_row Part op (x ∷ []) ts h = subst (Part x) (sym (h.2 ∙ ap (λ us. h.0 ++ us) h.4 ∙ append-nil h.0)) h.3
divided_of_row Part op (x ∷ y ∷ ys) ts h = let m = h.4 in (h.0, h.1, h.2, h.3, (m.0, m.1, m.2, m.3, divided_of_row Part op (y ∷ ys) m.1 m.4))
