-- One thing or more with a sign between, read from the left.
use Rattle.std.specs.Prelude.{◌≡◌, ◌⊎◌, ℕ, ◌<◌, ◌≤◌, List, [], ◌∷◌, ◌++◌, length, map, refl}
use Rattle.std.proofs.Common.{inl, inr, arith, sym, ◌∙◌, ap, subst, append_assoc, append-nil, length-append}
use Rattle.bk_form.specs.declared.token.Token.{Token}
use Rattle.bk_form.specs.declared.token.TokenKind.TheVariants.{Sign}
use Rattle.bk_raw.specs.Grammar.Pieces.{Never, Absent, JustSign, ◌⌢◌, Divided, AnyDivided}
use Rattle.bk_raw.proofs.Steps.{Piece}
use Rattle.bk_raw.proofs.Patterns.{first}
use Rattle.bk_p_expr.specs.Fronts.{Longest, Nothing}
use Rattle.bk_p_proof.specs.Ahead.{Ahead, NotAhead}
use Rattle.bk_p_proof.proofs.Cuts.{CutsAt, Begins, IsPrefixFree, token_joins, tail_same}

-- further ones, each behind a sign
abbrev pub Follow : {A : Type 0} → (A → Piece) → ℕ → List A → Piece
Follow Part op [] = Absent
Follow Part op (x ∷ xs) = JustSign op ⌢ Part x ⌢ Follow Part op xs

-- one or more
abbrev pub Row : {A : Type 0} → (A → Piece) → ℕ → List A → Piece
Row Part op [] = Never
Row Part op (x ∷ xs) = Part x ⌢ Follow Part op xs

-- what stands behind the rest that is read goes on with it
abbrev pub Further : {A : Type 0} → (A → Piece) → ℕ → List Token → List Token → Type 0
Further {A} Part op rest after = (x : A) × (xs : List A) × (back : List Token) × (rest ≡ back ++ after) × Follow Part op (x ∷ xs) back

-- these are read, up to this rest: another row ends no later, or goes on there
pub record RowSoFar {A : Type 0} (Part : A → Piece) (op : ℕ) (tokens : List Token) (xs : List A) (rest : List Token) : Type 0 where
  pub written : List Token
  pub splits : tokens ≡ written ++ rest
  pub spelled : Row Part op xs written
  pub reach : (ys : List A) (front after : List Token) → tokens ≡ front ++ after → Row Part op ys front → (length rest ≤ length after) ⊎ Further Part op rest after
  pub shorter : length rest < length tokens

follow_more : {A : Type 0} (Part : A → Piece) (op : ℕ) (xs : List A) (x : A) (w v : List Token) (t : Token) → Follow Part op xs w → t.kind ≡ Sign op → Part x v → Follow Part op (xs ++ x ∷ []) (w ++ t ∷ v)
follow_more Part op [] x w v t h e p = subst (λ us. Follow Part op (x ∷ []) (us ++ t ∷ v)) (sym h) (t ∷ [], v, refl, (t, refl, e), (v, [], sym (append-nil v), p, refl))
follow_more Part op (y ∷ ys) x w v t h e p =
    let m = h.4 in
    (h.0, h.1 ++ t ∷ v, ap (λ us. us ++ t ∷ v) h.2 ∙ append_assoc h.0 h.1 (t ∷ v), h.3, (m.0, m.1 ++ t ∷ v, ap (λ us. us ++ t ∷ v) m.2 ∙ append_assoc m.0 m.1 (t ∷ v), m.3, follow_more Part op ys x m.1 v t m.4 e p))

row_more : {A : Type 0} (Part : A → Piece) (op : ℕ) (xs : List A) (x : A) (w v : List Token) (t : Token) → Row Part op xs w → t.kind ≡ Sign op → Part x v → Row Part op (xs ++ x ∷ []) (w ++ t ∷ v)
row_more Part op [] x w v t h e p = absurd h
row_more Part op (y ∷ ys) x w v t h e p = (h.0, h.1 ++ t ∷ v, ap (λ us. us ++ t ∷ v) h.2 ∙ append_assoc h.0 h.1 (t ∷ v), h.3, follow_more Part op ys x h.1 v t h.4 e p)

alone : {A : Type 0} (Part : A → Piece) (op : ℕ) (x : A) (ts : List Token) → Part x ts → Row Part op (x ∷ []) ts
alone Part op x ts h = (ts, [], sym (append-nil ts), h, refl)

pub row_of_divided : {A : Type 0} (Part : A → Piece) (op : ℕ) (xs : List A) (ts : List Token) → Divided op Part xs ts → Row Part op xs ts
row_of_divided Part op [] ts h = h
row_of_divided Part op (x ∷ []) ts h = alone Part op x ts h
row_of_divided Part op (x ∷ y ∷ ys) ts h = let m = h.4 in (h.0, h.1, h.2, h.3, (m.0, m.1, m.2, m.3, row_of_divided Part op (y ∷ ys) m.1 m.4))

pub divided_of_row : {A : Type 0} (Part : A → Piece) (op : ℕ) (xs : List A) (ts : List Token) → Row Part op xs ts → Divided op Part xs ts
divided_of_row Part op [] ts h = h
divided_of_row Part op (x ∷ []) ts h = subst (Part x) (sym (h.2 ∙ ap (λ us. h.0 ++ us) h.4 ∙ append-nil h.0)) h.3
divided_of_row Part op (x ∷ y ∷ ys) ts h = let m = h.4 in (h.0, h.1, h.2, h.3, (m.0, m.1, m.2, m.3, divided_of_row Part op (y ∷ ys) m.1 m.4))

module _ {A : Type 0} (Part : A → Piece) (op : ℕ) (cut : CutsAt Part (Begins (Sign op))) where
  reaches : (ts rest : List Token) (x y : A) (ys : List A) (front back after : List Token) → Longest Part ts x rest → ts ≡ (front ++ back) ++ after → Part y front → Follow Part op ys back → (length rest ≤ length after) ⊎ Further Part op rest after
  reaches ts rest x y [] front back after h e p f =
      inl (h.longest y front after (e ∙ append_assoc front back after ∙ ap (λ us. front ++ (us ++ after)) f) p)
  reaches ts rest x y (z ∷ zs) front back after h e p f =
      let c = cut ts rest front (back ++ after) x y h (e ∙ append_assoc front back after) p (token_joins (Sign op) (λ (q : A × List A). Part q.0 ⌢ Follow Part op q.1) (z, zs) back after f) in
      inr (z, zs, back, c.1, f)

  pub row_begins : (tokens rest : List Token) (x : A) → Longest Part tokens x rest → length rest < length tokens → RowSoFar Part op tokens (x ∷ []) rest
  row_begins tokens rest x h l = record {
    written = h.written;
    splits = h.splits;
    spelled = (h.written, [], sym (append-nil h.written), h.spelled, refl);
    reach = begun;
    shorter = l;
  }
    where
      begun : (ys : List A) (front after : List Token) → tokens ≡ front ++ after → Row Part op ys front → (length rest ≤ length after) ⊎ Further Part op rest after
      begun [] front after e k = absurd k
      begun (y ∷ ys) front after e k = reaches tokens rest x y ys k.0 k.1 after h (e ∙ ap (λ us. us ++ after) k.2) k.3 k.4

  pub row_goes_on : (tokens ts more rest : List Token) (xs : List A) (x : A) → RowSoFar Part op tokens xs ts → Ahead (Sign op) ts more → Longest Part more x rest → length rest < length more → RowSoFar Part op tokens (xs ++ x ∷ []) rest
  row_goes_on tokens ts more rest xs x s a h l = record {
    written = s.written ++ a.0 ∷ h.written;
    splits = s.splits ∙ ap (λ us. s.written ++ us) (a.1 ∙ ap (λ us. a.0 ∷ us) h.splits) ∙ sym (append_assoc s.written (a.0 ∷ h.written) rest);
    spelled = row_more Part op xs x s.written h.written a.0 s.spelled a.2 h.spelled;
    reach = λ ys front after f r. further after (s.reach ys front after f r);
    shorter = omega (arith, s.shorter, l, ap length a.1);
  }
    where
      further : (after : List Token) → (length ts ≤ length after) ⊎ Further Part op ts after → (length rest ≤ length after) ⊎ Further Part op rest after
      further after (inl m) = inl (omega (arith, m, l, ap length a.1))
      further after (inr f) =
          let g = first (Sign op) (Part f.0 ⌢ Follow Part op f.1) f.2 f.4 in
          let both : a.0 ∷ more ≡ g.token ∷ (g.rest ++ after) = sym a.1 ∙ f.3 ∙ ap (λ us. us ++ after) g.is in
          let behind : more ≡ g.rest ++ after = cc in
          let b = g.back in
          reaches more rest x f.0 f.1 b.0 b.1 after h (behind ∙ ap (λ us. us ++ after) b.2) b.3 b.4

  ended_by : (tokens rest : List Token) (xs : List A) → RowSoFar Part op tokens xs rest → ((after : List Token) → Further Part op rest after → ⊥) → Longest (Divided op Part) tokens xs rest
  ended_by tokens rest xs s n = record {
    written = s.written;
    splits = s.splits;
    spelled = divided_of_row Part op xs s.written s.spelled;
    longest = λ ys front after e k. ended after (s.reach ys front after e (row_of_divided Part op ys front k));
  }
    where
      ended : (after : List Token) → (length rest ≤ length after) ⊎ Further Part op rest after → length rest ≤ length after
      ended after (inl l) = l
      ended after (inr f) = absurd (n after f)

  pub row_ends : (tokens rest : List Token) (xs : List A) → RowSoFar Part op tokens xs rest → NotAhead (Sign op) rest → Longest (Divided op Part) tokens xs rest
  row_ends tokens rest xs s n = ended_by tokens rest xs s none
    where
      none : (after : List Token) → Further Part op rest after → ⊥
      none after f =
          let g = first (Sign op) (Part f.0 ⌢ Follow Part op f.1) f.2 f.4 in
          n g.token (g.rest ++ after) (f.3 ∙ ap (λ us. us ++ after) g.is) g.same

  pub row_ends_before : (tokens rest more : List Token) (xs : List A) → RowSoFar Part op tokens xs rest → Ahead (Sign op) rest more → Nothing Part more → Longest (Divided op Part) tokens xs rest
  row_ends_before tokens rest more xs s a n = ended_by tokens rest xs s none
    where
      none : (after : List Token) → Further Part op rest after → ⊥
      none after f =
          let g = first (Sign op) (Part f.0 ⌢ Follow Part op f.1) f.2 f.4 in
          let both : a.0 ∷ more ≡ g.token ∷ (g.rest ++ after) = sym a.1 ∙ f.3 ∙ ap (λ us. us ++ after) g.is in
          let behind : more ≡ g.rest ++ after = cc in
          let b = g.back in
          n f.0 b.0 (b.1 ++ after) (behind ∙ ap (λ us. us ++ after) b.2 ∙ append_assoc b.0 b.1 after) b.3

pub row_none : {A : Type 0} (Part : A → Piece) (op : ℕ) (tokens : List Token) → Nothing Part tokens → Nothing (Divided op Part) tokens
row_none {A} Part op tokens n xs front after e k = none xs front after e (row_of_divided Part op xs front k)
  where
    none : (xs : List A) (front after : List Token) → tokens ≡ front ++ after → Row Part op xs front → ⊥
    none [] front after e k = k
    none (x ∷ xs) front after e k = n x k.0 (k.1 ++ after) (e ∙ ap (λ us. us ++ after) k.2 ∙ append_assoc k.0 k.1 after) k.3

-- ---- none at all, where none is in front
pub any_longest : {A : Type 0} (Part : A → Piece) (op : ℕ) (tokens rest : List Token) (xs : List A) → Longest (Divided op Part) tokens xs rest → length rest < length tokens → Longest (AnyDivided op Part) tokens xs rest
any_longest Part op tokens rest [] h l = absurd h.spelled
any_longest {A} Part op tokens rest (x ∷ xs) h l = record {
  written = h.written;
  splits = h.splits;
  spelled = h.spelled;
  longest = longer;
}
  where
    longer : (ys : List A) (front after : List Token) → tokens ≡ front ++ after → AnyDivided op Part ys front → length rest ≤ length after
    longer [] front after e k = omega (arith, l, ap length e, ap length (ap (λ us. us ++ after) k))
    longer (y ∷ ys) front after e k = h.longest (y ∷ ys) front after e k

pub none_longest : {A : Type 0} (Part : A → Piece) (op : ℕ) (tokens : List Token) → Nothing Part tokens → Longest (AnyDivided op Part) tokens [] tokens
none_longest {A} Part op tokens n = record {
  written = [];
  splits = refl;
  spelled = refl;
  longest = longer;
}
  where
    longer : (ys : List A) (front after : List Token) → tokens ≡ front ++ after → AnyDivided op Part ys front → length tokens ≤ length after
    longer [] front after e k = omega (arith, ap length e, ap length (ap (λ us. us ++ after) k))
    longer (y ∷ ys) front after e k = absurd (row_none Part op tokens n (y ∷ ys) front after e k)

-- ---- where a row is cut
follow_cut : {A : Type 0} (Part : A → Piece) (op : ℕ) → IsPrefixFree Part → (xs ys : List A) (a b r q : List Token) → a ++ r ≡ b ++ q → Follow Part op xs a → Follow Part op ys b → NotAhead (Sign op) q → length r ≤ length q → (xs ≡ ys) × (r ≡ q)
follow_cut Part op p [] [] a b r q e h k n l = (refl, ap (λ us. us ++ r) (sym h) ∙ e ∙ ap (λ us. us ++ q) k)
follow_cut Part op p [] (y ∷ ys) a b r q e h k n l =
    let g = first (Sign op) (Part y ⌢ Follow Part op ys) b k in
    absurd (omega (arith, l, ap length (ap (λ us. us ++ r) (sym h) ∙ e ∙ ap (λ us. us ++ q) g.is), length-append g.rest q))
follow_cut Part op p (x ∷ xs) [] a b r q e h k n l =
    let g = first (Sign op) (Part x ⌢ Follow Part op xs) a h in
    absurd (n g.token (g.rest ++ r) (ap (λ us. us ++ q) (sym k) ∙ sym e ∙ ap (λ us. us ++ r) g.is) g.same)
follow_cut Part op p (x ∷ xs) (y ∷ ys) a b r q e h k n l =
    let f = first (Sign op) (Part x ⌢ Follow Part op xs) a h in
    let g = first (Sign op) (Part y ⌢ Follow Part op ys) b k in
    let s = tail_same f.token g.token (f.rest ++ r) (g.rest ++ q) (ap (λ us. us ++ r) (sym f.is) ∙ e ∙ ap (λ us. us ++ q) g.is) in
    let i = f.back in
    let j = g.back in
    let c = p x y i.0 j.0 (i.1 ++ r) (j.1 ++ q) (sym (append_assoc i.0 i.1 r) ∙ ap (λ us. us ++ r) (sym i.2) ∙ s.1 ∙ ap (λ us. us ++ q) j.2 ∙ append_assoc j.0 j.1 q) i.3 j.3 in
    let d = follow_cut Part op p xs ys i.1 j.1 r q c.1 i.4 j.4 n l in
    ((λ i. c.0 i ∷ d.0 i), d.1)

row_cut : {A : Type 0} (Part : A → Piece) (op : ℕ) → IsPrefixFree Part → (xs ys : List A) (a b r q : List Token) → a ++ r ≡ b ++ q → Row Part op xs a → Row Part op ys b → NotAhead (Sign op) q → length r ≤ length q → (xs ≡ ys) × (r ≡ q)
row_cut Part op p [] ys a b r q e h k n l = absurd h
row_cut Part op p (x ∷ xs) [] a b r q e h k n l = absurd k
row_cut Part op p (x ∷ xs) (y ∷ ys) a b r q e h k n l =
    let c = p x y h.0 k.0 (h.1 ++ r) (k.1 ++ q) (sym (append_assoc h.0 h.1 r) ∙ ap (λ us. us ++ r) (sym h.2) ∙ e ∙ ap (λ us. us ++ q) k.2 ∙ append_assoc k.0 k.1 q) h.3 k.3 in
    let d = follow_cut Part op p xs ys h.1 k.1 r q c.1 h.4 k.4 n l in
    ((λ i. c.0 i ∷ d.0 i), d.1)

-- where the sign between does not follow, a row is cut
pub divided_cut : {A : Type 0} (Part : A → Piece) (op : ℕ) → IsPrefixFree Part → CutsAt (Divided op Part) (NotAhead (Sign op))
divided_cut Part op p tokens rest front back xs ys h e k n = row_cut Part op p xs ys h.written front rest back (sym h.splits ∙ e) (row_of_divided Part op xs h.written h.spelled) (row_of_divided Part op ys front k) n (h.longest ys front back e k)

-- ---- what is made of each of the things read
pub map_last : {A B : Type 0} (f : A → B) (xs : List A) (x : A) → map f (xs ++ x ∷ []) ≡ map f xs ++ f x ∷ []
map_last f [] x = refl
map_last f (y ∷ ys) x = λ i. f y ∷ map_last f ys x i
