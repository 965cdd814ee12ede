-- Clauses read on in the tokens before the first addition are read on in all of the tokens.
use Rattle.std.specs.Prelude.{◌≡◌, ◌≢◌, ℕ, ◌≤◌, true, List, [], ◌∷◌, ◌++◌, length, map, All, refl}
use Rattle.std.proofs.Common.{arith, sym, ◌∙◌, ap, subst, append_assoc, length-append}
use Rattle.std.proofs.lemmas.List.Elements.{All-cons, All-head, All-nil, All-tail, All-append}
use Rattle.bk_form.specs.declared.token.Token.{Token}
use Rattle.bk_raw.specs.Trees.ComponentTree.{ClauseParts, clause_sets, RawClause, clause_number, is_allowed}
use Rattle.bk_raw.specs.Grammar.ComponentSpelling.{Clause, ArePlain, AreClausesOf}
use Rattle.bk_raw.specs.Trees.Numbers.{Differ}
use Rattle.bk_raw.specs.Errors.Places.{AreReadOn, CanFollow}
use Rattle.bk_raw.specs.declared.component.ComponentKind.{ComponentKind}
use Rattle.bk_p_expr.specs.Fronts.{Longest}
use Rattle.bk_p_comp.specs.Clauses.{CompleteFollow, ReadOn}
use Rattle.bk_p_comp.specs.Parts.{IsComplete}

pub complete_of : (c : RawClause) → ArePlain c.parts → IsComplete c.parts
complete_of c h = by c.parts h
  where
    by : (p : ClauseParts) → ArePlain p → IsComplete p
    by (clause_sets ss) h = h
    by _ h = tt

-- ---- one more clause
last_differs : (ns : List ℕ) (n : ℕ) → Differ (ns ++ n ∷ []) → All (λ m. n ≢ m) ns
last_differs [] n h = All-nil (λ m. n ≢ m)
last_differs (m ∷ ns) n h = All-cons (λ k. n ≢ k) m ns (λ e. (last_of m ns n h.0) (sym e)) (last_differs ns n h.1)
  where
    last_of : (m : ℕ) (ns : List ℕ) (n : ℕ) → All (λ k. m ≢ k) (ns ++ n ∷ []) → m ≢ n
    last_of m [] n h = All-head (λ k. m ≢ k) n [] h
    last_of m (k ∷ ns) n h = last_of m ns n (All-tail (λ j. m ≢ j) k (ns ++ n ∷ []) h)

differ_last : (ns : List ℕ) (n : ℕ) → Differ ns → All (λ m. n ≢ m) ns → Differ (ns ++ n ∷ [])
differ_last [] n h k = (All-nil (λ m. n ≢ m), tt)
differ_last (m ∷ ns) n h k = (All-append (λ j. m ≢ j) ns (n ∷ []) h.0 (All-cons (λ j. m ≢ j) n [] (λ e. All-head (λ j. n ≢ j) m ns k (sym e)) (All-nil (λ j. m ≢ j))), differ_last ns n h.1 (All-tail (λ j. n ≢ j) m ns k))

pub numbers_last : (cs : List RawClause) (c : RawClause) → map (λ d. clause_number d.word) (cs ++ c ∷ []) ≡ map (λ d. clause_number d.word) cs ++ clause_number c.word ∷ []
numbers_last [] c = refl
numbers_last (d ∷ cs) c = ap (λ ns. clause_number d.word ∷ ns) (numbers_last cs c)

last_all : (P : RawClause → Type 0) (cs : List RawClause) (c : RawClause) → All P (cs ++ c ∷ []) → P c
last_all P [] c h = All-head P c [] h
last_all P (d ∷ cs) c h = last_all P cs c (All-tail P d (cs ++ c ∷ []) h)

-- ---- what may follow, in both forms
-- IsCut tokens cut: the tokens are those before the first addition of all of them
module _ (IsCut : List Token → List Token → Type 0) (within : (c : RawClause) (tokens cut front back : List Token) → IsCut tokens cut → tokens ++ cut ≡ front ++ back → Clause c front → ArePlain c.parts → (rest : List Token) × (tokens ≡ front ++ rest) × (back ≡ rest ++ cut)) (plain : (c : RawClause) (tokens cut front back : List Token) → IsCut tokens cut → tokens ≡ front ++ back → Clause c front → IsComplete c.parts → ArePlain c.parts) (later : (front back cut : List Token) → IsCut (front ++ back) cut → IsCut back cut) where
  pub can_so : (kind : ComponentKind) (done : List RawClause) (c : RawClause) (cut tokens front back : List Token) → IsCut tokens cut → tokens ++ cut ≡ front ++ back → Clause c front → AreClausesOf kind (done ++ c ∷ []) → (rest : List Token) × (tokens ≡ front ++ rest) × (back ≡ rest ++ cut) × CompleteFollow kind done c front
  can_so kind done c cut tokens front back k e w made =
      let p : ArePlain c.parts = last_all (λ d. ArePlain d.parts) done c made.plain in
      let i : (rest : List Token) × (tokens ≡ front ++ rest) × (back ≡ rest ++ cut) = within c tokens cut front back k e w p in
      (i.0, i.1, i.2, (w, last_all (λ d. is_allowed kind d.word ≡ true) done c made.allowed, complete_of c p, last_differs (map (λ d. clause_number d.word) done) (clause_number c.word) (subst Differ (numbers_last done c) made.once)))

  pub so_can : (kind : ComponentKind) (done : List RawClause) (c : RawClause) (cut tokens front back : List Token) → IsCut tokens cut → tokens ≡ front ++ back → AreClausesOf kind done → CompleteFollow kind done c front → AreClausesOf kind (done ++ c ∷ [])
  so_can kind done c cut tokens front back k e made f = record {
    allowed = All-append (λ d. is_allowed kind d.word ≡ true) done (c ∷ []) made.allowed (All-cons (λ d. is_allowed kind d.word ≡ true) c [] f.1 (All-nil (λ d. is_allowed kind d.word ≡ true)));
    plain = All-append (λ d. ArePlain d.parts) done (c ∷ []) made.plain (All-cons (λ d. ArePlain d.parts) c [] (plain c tokens cut front back k e f.0 f.2) (All-nil (λ d. ArePlain d.parts)));
    once = subst Differ (sym (numbers_last done c)) (differ_last (map (λ d. clause_number d.word) done) (clause_number c.word) made.once f.3);
  }

  -- read on
  pub read_on : (kind : ComponentKind) (done cs : List RawClause) (cut tokens rest : List Token) → IsCut tokens cut → AreClausesOf kind done → ReadOn kind done cs tokens rest → AreReadOn kind done cs (tokens ++ cut) (rest ++ cut)
  read_on kind done [] cut tokens rest k made r = (ap (λ ts. ts ++ cut) r.0, made, none)
    where
      none : (d : RawClause) (other : List Token) → CanFollow kind done d (tokens ++ cut) other → ⊥
      none d other c =
          let s = can_so kind done d cut tokens other c.0.0 k c.0.1 c.1 c.2 in
          r.1 d other s.0 s.1 s.3
  read_on kind done (c ∷ cs) cut tokens rest k made r =
      let l = r.1 in
      let more : AreClausesOf kind (done ++ c ∷ []) = so_can kind done c cut tokens l.written r.0 k l.splits made l.spelled in
      let behind = later l.written r.0 cut (subst (λ ts. IsCut ts cut) l.splits k) in
      (l.written, r.0 ++ cut, ap (λ ts. ts ++ cut) l.splits ∙ append_assoc l.written r.0 cut, l.spelled.0, no_longer l, read_on kind (done ++ c ∷ []) cs cut r.0 rest behind more r.2)
    where
      no_longer : (l : Longest (CompleteFollow kind done) tokens c r.0) (d : RawClause) (other : List Token) → CanFollow kind done d (tokens ++ cut) other → length other ≤ length l.written
      no_longer l d other f =
          let s = can_so kind done d cut tokens other f.0.0 k f.0.1 f.1 f.2 in
          let m : length r.0 ≤ length s.0 = l.longest d other s.0 s.1 s.3 in
          omega (arith, m, ap length l.splits, ap length s.1, length-append l.written r.0, length-append other s.0)
