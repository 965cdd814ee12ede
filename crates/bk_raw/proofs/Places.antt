-- Where the longest whole front of a component ends.
use Rattle.std.proofs.Common.{◌≡◌, ◌⊎◌, inl, inr, ◌≤◌, ◌+◌, ℕ, true, false, List, [], ◌∷◌, ◌++◌, length, refl, sym, ◌∙◌, ap, subst, arith, append_assoc, append-nil, length-append}
use Rattle.std.specs.Prelude.{All, map}
use Rattle.std.proofs.lemmas.List.{map-append}
use Rattle.std.proofs.lemmas.List.Elements.{All-nil, All-cons, All-head, All-tail}
use Rattle.bk_form.specs.declared.token.Token.{Token}
use Rattle.bk_form.specs.declared.token.TokenKind.TheVariants.{Word}
use Rattle.bk_ops.specs.declared.word.TheConstants.{END}
use Rattle.bk_raw.specs.Grammar.Pieces.{JustWord, InRow}
use Rattle.bk_raw.specs.Trees.Numbers.{Differ}
use Rattle.bk_raw.specs.declared.component.ComponentKind.{ComponentKind}
use Rattle.bk_raw.specs.Trees.ComponentTree.{RawClause, RawComponent, word_number, clause_number, is_allowed}
use Rattle.bk_raw.specs.Grammar.ComponentSpelling.{Parts, Clause, Header, ArePlain, AreClausesOf, SpellsComponent}
use Rattle.bk_raw.specs.Errors.Places.{IsWholeComponent, IsLongestWhole, IsComponentFault, byte_at, AreReadOn}
use Rattle.bk_raw.specs.Grammar.Laws.{PlacesAreOne}
use Rattle.bk_raw.proofs.Runs.{Halts, no-longer}
use Rattle.bk_raw.proofs.Steps.{step, stepped}
use Rattle.bk_raw.proofs.Patterns.{first, last}
use Rattle.bk_raw.proofs.ClauseRuns.{ends_clause, parts-lead}
use Rattle.bk_raw.proofs.ClauseOne.{first-at, one-clause}
use Rattle.bk_raw.proofs.ComponentOne.{IsClosed, clause-halts, clause-not-closed, header-cut, SameHeader}
use Rattle.bk_raw.proofs.Shapes.{lengths as shorter-by}

-- ---- fronts of lists of clauses
all-front : {X : Type 0} (P : X → Type 0) (xs ys : List X) → All P (xs ++ ys) → All P xs
all-front P [] ys h = All-nil P
all-front P (x ∷ xs) ys h = All-cons P x xs (All-head P x (xs ++ ys) h) (all-front P xs ys (All-tail P x (xs ++ ys) h))

differ-front : (xs ys : List ℕ) → Differ (xs ++ ys) → Differ xs
differ-front [] ys h = tt
differ-front (x ∷ xs) ys h = (all-front (λ m. x ≡ m → ⊥) xs ys h.0, differ-front xs ys h.1)

pub clauses-front : (kind : ComponentKind) (cs ds : List RawClause) → AreClausesOf kind (cs ++ ds) → AreClausesOf kind cs
clauses-front kind cs ds h = record {
  allowed = all-front (λ c. is_allowed kind c.word ≡ true) cs ds h.allowed;
  plain = all-front (λ c. ArePlain c.parts) cs ds h.plain;
  once = differ-front (map (λ c. clause_number c.word) cs) (map (λ c. clause_number c.word) ds) (subst Differ (map-append (λ c. clause_number c.word) cs ds) h.once);
}

-- a clause in front of the others
with-next : (kind : ComponentKind) (done : List RawClause) (c : RawClause) (cs : List RawClause) → AreClausesOf kind (done ++ c ∷ cs) → AreClausesOf kind ((done ++ c ∷ []) ++ cs)
with-next kind done c cs h = subst (AreClausesOf kind) (sym (append_assoc done (c ∷ []) cs)) h

-- ---- clauses at one place

pub clause-no-longer : (c d : RawClause) (a r b q : List Token) → Clause c a → Clause d b → Halts (step ends_clause) (0, true) r → a ++ r ≡ b ++ q → (x : List Token) × (a ≡ b ++ x) × (q ≡ x ++ r)
clause-no-longer c d a r b q h k s e =
    let f = first-at c.at (Word (word_number c.word)) (Parts c.word c.parts) a h in
    let g = first-at d.at (Word (word_number d.word)) (Parts d.word d.parts) b k in
    let is : f.token ∷ f.rest ++ r ≡ g.token ∷ g.rest ++ q = sym (ap (λ ts. ts ++ r) f.is) ∙ e ∙ ap (λ ts. ts ++ q) g.is in
    let same : f.token ≡ g.token = cc in
    let others : f.rest ++ r ≡ g.rest ++ q = cc in
    let m = no-longer (step ends_clause) (0, false) (0, true) (0, true) f.rest r g.rest q (parts-lead c.word c.parts f.rest f.back) (parts-lead d.word d.parts g.rest g.back) s others in
    (m.0, f.is ∙ (λ i. same i ∷ m.1 i) ∙ ap (λ ts. ts ++ m.0) (sym g.is), m.2)

-- ---- what follows the header
-- nothing, or END
abbrev pub Ending : List Token → Type 0
Ending e = (e ≡ []) ⊎ JustWord END e

pub read-shorter : (kind : ComponentKind) (done cs : List RawClause) (us rest : List Token) → AreReadOn kind done cs us rest → (taken : List Token) × (us ≡ taken ++ rest) × InRow Clause cs taken
read-shorter kind done [] us rest h = ([], h.0, refl)
read-shorter kind done (c ∷ cs) us rest h =
    let m = read-shorter kind (done ++ c ∷ []) cs h.1 rest h.5 in
    (h.0 ++ m.0, h.2 ∙ ap (λ ts. h.0 ++ ts) m.1 ∙ sym (append_assoc h.0 m.0 rest), (h.0, m.0, refl, h.3, m.2))

pub read-made : (kind : ComponentKind) (done cs : List RawClause) (us rest : List Token) → AreReadOn kind done cs us rest → AreClausesOf kind (done ++ cs)
read-made kind done [] us rest h = subst (AreClausesOf kind) (sym (append-nil done)) h.1
read-made kind done (c ∷ cs) us rest h = subst (AreClausesOf kind) (append_assoc done (c ∷ []) cs) (read-made kind (done ++ c ∷ []) cs h.1 rest h.5)

-- as long as what is read at the most, or it is what is read
abbrev Settled : List RawClause → List RawClause → List Token → List Token → List Token → List Token → List Token → Type 0
Settled cs ds us rest g e q = (length g + length e + length rest ≤ length us) ⊎ ((ds ≡ cs) × (rest ≡ e ++ q) × (length g + length rest ≡ length us))

no-clause-ends : (c : RawClause) (a back e q : List Token) → Clause c a → JustWord END e → a ++ back ≡ e ++ q → ⊥
no-clause-ends c a back e q h k is =
    let f = first (Word END) (λ us. us ≡ []) e (last (Word END) e k) in
    let closed : IsClosed (e ++ q) = subst (λ ts. IsClosed (ts ++ q)) (sym f.is) f.same in
    clause-not-closed c (λ ts. ts ≡ back) (a ++ back) (a, back, refl, h, refl) (subst IsClosed (sym is) closed)

no-more : (x y : List Token) (z : List Token) → x ≡ y ++ z → length x ≤ length y → z ≡ []
no-more x y [] e l = refl
no-more x y (t ∷ z) e l = absurd (omega (arith, l, shorter-by x y (t ∷ z) e))

mutual-less : (kind : ComponentKind) (done cs : List RawClause) (us rest : List Token) → AreReadOn kind done cs us rest → length rest ≤ length us
mutual-less kind done cs us rest h = let m = read-shorter kind done cs us rest h in omega (arith, shorter-by us m.0 rest m.1)

pub settle : (kind : ComponentKind) (done cs ds : List RawClause) (us rest g e q : List Token) → AreReadOn kind done cs us rest → InRow Clause ds g → AreClausesOf kind (done ++ ds) → Ending e → us ≡ g ++ (e ++ q) → Settled cs ds us rest g e q
settle kind done [] [] us rest g e q h k made end is =
    let empty : us ≡ e ++ q = is ∙ ap (λ ts. ts ++ (e ++ q)) k in
    inr (refl, sym h.0 ∙ empty, omega (arith, ap length k, ap length h.0))
settle kind done [] (d ∷ ds) us rest g e q h k made end is =
    let there : us ≡ k.0 ++ (k.1 ++ (e ++ q)) = is ∙ ap (λ ts. ts ++ (e ++ q)) k.2 ∙ append_assoc k.0 k.1 (e ++ q) in
    absurd (h.2 d k.0 ((k.1 ++ (e ++ q), there), k.3, clauses-front kind (done ++ d ∷ []) ds (with-next kind done d ds made)))
settle kind done (c ∷ cs) [] us rest g e q h k made end is = by-cases end
  where
    empty : us ≡ e ++ q
    empty = is ∙ ap (λ ts. ts ++ (e ++ q)) k

    by-cases : Ending e → Settled (c ∷ cs) [] us rest g e q
    by-cases (inl f) = inl (omega (arith, ap length f, ap length k, mutual-less kind done (c ∷ cs) us rest h))
    by-cases (inr f) = absurd (no-clause-ends c h.0 h.1 e q h.3 f (sym h.2 ∙ empty))
settle kind done (c ∷ cs) (d ∷ ds) us rest g e q h k made end is = by-cases (λ m b. settle kind (done ++ c ∷ []) cs ds h.1 rest k.1 e q h.5 k.4 m end b) ds refl end
  where
    Again : Type 0
    Again = AreClausesOf kind ((done ++ c ∷ []) ++ ds) → h.1 ≡ k.1 ++ (e ++ q) → Settled cs ds h.1 rest k.1 e q

    there : us ≡ k.0 ++ (k.1 ++ (e ++ q))
    there = is ∙ ap (λ ts. ts ++ (e ++ q)) k.2 ∙ append_assoc k.0 k.1 (e ++ q)

    within : length k.0 ≤ length h.0
    within = h.4 d k.0 ((k.1 ++ (e ++ q), there), k.3, clauses-front kind (done ++ d ∷ []) ds (with-next kind done d ds made))

    less : length rest ≤ length h.1
    less = mutual-less kind (done ++ c ∷ []) cs h.1 rest h.5

    whole : length us ≡ length h.0 + length h.1
    whole = shorter-by us h.0 h.1 h.2

    parts : length g ≡ length k.0 + length k.1
    parts = shorter-by g k.0 k.1 k.2

    -- where something stands behind that halts
    goes-on : Again → Halts (step ends_clause) (0, true) (k.1 ++ (e ++ q)) → Settled (c ∷ cs) (d ∷ ds) us rest g e q
    goes-on again s = by-rest (again (with-next kind done c ds (subst (λ x. AreClausesOf kind (done ++ x ∷ ds)) (sym same) made)) (sym back))
      where
        m : (x : List Token) × (k.0 ≡ h.0 ++ x) × (h.1 ≡ x ++ (k.1 ++ (e ++ q)))
        m = clause-no-longer d c k.0 (k.1 ++ (e ++ q)) h.0 h.1 k.3 h.3 s (sym there ∙ h.2)

        none : m.0 ≡ []
        none = no-more k.0 h.0 m.0 m.1 within

        front : k.0 ≡ h.0
        front = m.1 ∙ ap (λ ts. h.0 ++ ts) none ∙ append-nil h.0

        same : c ≡ d
        same = one-clause c d h.0 h.3 (subst (Clause d) front k.3)

        back : k.1 ++ (e ++ q) ≡ h.1
        back = sym (m.2 ∙ ap (λ ts. ts ++ (k.1 ++ (e ++ q))) none)

        by-rest : Settled cs ds h.1 rest k.1 e q → Settled (c ∷ cs) (d ∷ ds) us rest g e q
        by-rest (inl l) = inl (omega (arith, l, whole, parts, within))
        by-rest (inr l) = inr ((λ i. sym same i ∷ l.0 i), l.1, omega (arith, l.2, whole, parts, ap length front))

    by-cases : Again → (es : List RawClause) → es ≡ ds → Ending e → Settled (c ∷ cs) (d ∷ ds) us rest g e q
    by-cases again [] i (inl f) =
        let none : k.1 ≡ [] = subst (λ x. InRow Clause x k.1) (sym i) k.4 in
        inl (omega (arith, within, less, whole, parts, ap length none, ap length f))
    by-cases again [] i (inr f) =
        let none : k.1 ≡ [] = subst (λ x. InRow Clause x k.1) (sym i) k.4 in
        let t = first (Word END) (λ us. us ≡ []) e (last (Word END) e f) in
        let halts : Halts (step ends_clause) (0, true) (e ++ q) = subst (λ ts. Halts (step ends_clause) (0, true) (ts ++ q)) (sym t.is) (ap (λ kind. stepped ends_clause 0 true kind) t.same) in
        goes-on again (subst (λ ts. Halts (step ends_clause) (0, true) (ts ++ (e ++ q))) (sym none) halts)
    by-cases again (b ∷ bs) i f =
        let row : InRow Clause (b ∷ bs) k.1 = subst (λ x. InRow Clause x k.1) (sym i) k.4 in
        goes-on again (clause-halts b (λ ts. ts ≡ row.1 ++ (e ++ q)) (k.1 ++ (e ++ q)) (row.0, row.1 ++ (e ++ q), ap (λ ts. ts ++ (e ++ q)) row.2 ∙ append_assoc row.0 row.1 (e ++ q), row.3, refl))

-- ---- the whole component
-- no longer than what is read, or END behind all that is read
abbrev Compared : List Token → List Token → List Token → Type 0
Compared tokens rest f = (length f + length rest ≤ length tokens) ⊎ ((e q : List Token) × JustWord END e × (rest ≡ e ++ q) × (length f + length rest ≡ length tokens + 1))

module _ (c : RawComponent) (tokens h us rest : List Token) (is : tokens ≡ h ++ us) (header : Header c h) (read : AreReadOn c.kind [] c.clauses us rest) where
  abbrev taken : List Token
  taken = (read-shorter c.kind [] c.clauses us rest read).0

  taken-is : us ≡ taken ++ rest
  taken-is = (read-shorter c.kind [] c.clauses us rest read).1

  row : InRow Clause c.clauses taken
  row = (read-shorter c.kind [] c.clauses us rest read).2

  made : AreClausesOf c.kind c.clauses
  made = read-made c.kind [] c.clauses us rest read

  splits : tokens ≡ (h ++ taken) ++ rest
  splits = is ∙ ap (λ ts. h ++ ts) taken-is ∙ sym (append_assoc h taken rest)

  lengths : length h + length taken + length rest ≡ length tokens
  lengths = omega (arith, shorter-by tokens (h ++ taken) rest splits, length-append h taken)

  one-end : (e : List Token) → JustWord END e → length e ≡ 1
  one-end e k = ap length k.1

  compare-row : (d : RawComponent) (p g e q f : List Token) → Header d p → InRow Clause d.clauses g → AreClausesOf d.kind d.clauses → Ending e → tokens ≡ p ++ (g ++ (e ++ q)) → length f ≡ length p + length g + length e → Compared tokens rest f
  compare-row d p g e q f hd hr hm he there size = by-cases he (settle c.kind [] c.clauses d.clauses us rest g e q read hr (subst (λ k. AreClausesOf k d.clauses) (sym same.kind) hm) he behind)
    where
      same : SameHeader c d (λ ts. ts ≡ us) (λ ts. ts ≡ g ++ (e ++ q))
      same = header-cut c d (λ ts. ts ≡ us) (λ ts. ts ≡ g ++ (e ++ q)) tokens (h, us, is, header, refl) (p, g ++ (e ++ q), there, hd, refl)

      behind : us ≡ g ++ (e ++ q)
      behind = sym same.behind.1 ∙ same.behind.2

      fronts : length p ≡ length h
      fronts = omega (arith, shorter-by tokens p (g ++ (e ++ q)) there, shorter-by tokens h us is, ap length behind)

      by-cases : Ending e → Settled c.clauses d.clauses us rest g e q → Compared tokens rest f
      by-cases k (inl l) = inl (omega (arith, l, size, fronts, shorter-by tokens h us is))
      by-cases (inl k) (inr l) = inl (omega (arith, l.2, size, fronts, shorter-by tokens h us is, ap length k))
      by-cases (inr k) (inr l) = inr (e, q, k, l.1, omega (arith, l.2, size, fronts, shorter-by tokens h us is, one-end e k))

  pub compare : (f q : List Token) → tokens ≡ f ++ q → IsWholeComponent f → Compared tokens rest f
  compare f q there (inl e) = inl (omega (arith, ap length e, lengths))
  compare f q there (inr (d, inl o)) =
      let w = o.written in
      compare-row d w.0 w.1 [] q f w.3 w.4 o.made (inl refl) (there ∙ ap (λ ts. ts ++ q) w.2 ∙ append_assoc w.0 w.1 q) (omega (arith, shorter-by f w.0 w.1 w.2))
  compare f q there (inr (d, inr o)) =
      let w = o.written in
      let v = w.3 in
      compare-row d v.0 v.1 w.1 q f v.3 v.4 o.made (inr w.4)
      (there ∙ ap (λ ts. ts ++ q) w.2 ∙ append_assoc w.0 w.1 q ∙ ap (λ ts. ts ++ (w.1 ++ q)) v.2 ∙ append_assoc v.0 v.1 (w.1 ++ q))
      (omega (arith, shorter-by f w.0 w.1 w.2, shorter-by w.0 v.0 v.1 v.2))

  -- where END does not stand behind
  pub place-open : ((t : Token) (ts : List Token) → rest ≡ t ∷ ts → t.kind ≡ Word END → ⊥) → (place : ℕ) → place + length rest ≡ length tokens → IsLongestWhole IsWholeComponent tokens place
  place-open none place at = record {
    front = h ++ taken;
    rest = rest;
    splits = splits;
    ends = omega (arith, at, lengths, length-append h taken);
    whole = inr (c, inl (record { written = (h, taken, refl, header, row); made = made }));
    longest = λ f q there w. by-cases f (compare f q there w);
  }
    where
      by-cases : (f : List Token) → Compared tokens rest f → length f ≤ place
      by-cases f (inl l) = omega (arith, l, at)
      by-cases f (inr l) =
          let t = first (Word END) (λ us. us ≡ []) l.0 (last (Word END) l.0 l.2) in
          absurd (none t.token (t.rest ++ l.1) (l.3 ∙ ap (λ ts. ts ++ l.1) t.is) t.same)

  -- where it does
  pub place-closed : (t : Token) (ts : List Token) → rest ≡ t ∷ ts → t.kind ≡ Word END → (place : ℕ) → place + length rest ≡ length tokens + 1 → IsLongestWhole IsWholeComponent tokens place
  place-closed t ts e k place at = record {
    front = (h ++ taken) ++ t ∷ [];
    rest = ts;
    splits = splits ∙ ap (λ us. (h ++ taken) ++ us) e ∙ sym (append_assoc (h ++ taken) (t ∷ []) ts);
    ends = omega (arith, at, lengths, length-append h taken, length-append (h ++ taken) (t ∷ []));
    whole = inr (c, inr (record { written = (h ++ taken, t ∷ [], refl, (h, taken, refl, header, row), (t, refl, k)); made = made }));
    longest = λ f q there w. by-cases f (compare f q there w);
  }
    where
      by-cases : (f : List Token) → Compared tokens rest f → length f ≤ place
      by-cases f (inl l) = omega (arith, l, at)
      by-cases f (inr l) = omega (arith, l.4, at)

-- where no header stands in front
pub place-none : (tokens : List Token) → ((d : RawComponent) (p q : List Token) → tokens ≡ p ++ q → Header d p → ⊥) → IsLongestWhole IsWholeComponent tokens 0
place-none tokens none = record { front = []; rest = tokens; splits = refl; ends = refl; whole = inl refl; longest = λ f q there w. by-cases f q there w }
  where
    by-cases : (f q : List Token) → tokens ≡ f ++ q → IsWholeComponent f → length f ≤ 0
    by-cases f q there (inl e) = omega (arith, ap length e)
    by-cases f q there (inr (d, inl o)) = let w = o.written in absurd (none d w.0 (w.1 ++ q) (there ∙ ap (λ ts. ts ++ q) w.2 ∙ append_assoc w.0 w.1 q) w.3)
    by-cases f q there (inr (d, inr o)) =
        let w = o.written in
        let v = w.3 in
        absurd (none d v.0 (v.1 ++ (w.1 ++ q)) (there ∙ ap (λ ts. ts ++ q) w.2 ∙ append_assoc w.0 w.1 q ∙ ap (λ ts. ts ++ (w.1 ++ q)) v.2 ∙ append_assoc v.0 v.1 (w.1 ++ q)) v.3)

-- ---- one place, and none where a component is spelled
pub longest-one : (IsWhole : List Token → Type 0) (tokens : List Token) (m n : ℕ) → IsLongestWhole IsWhole tokens m → IsLongestWhole IsWhole tokens n → m ≡ n
longest-one IsWhole tokens m n h k =
    let a = h.longest k.front k.rest k.splits k.whole in
    let b = k.longest h.front h.rest h.splits h.whole in
    omega (arith, a, b, h.ends, k.ends)

pub places-are-one : (tokens : List Token) (m n : ℕ) → IsComponentFault tokens m → IsComponentFault tokens n → m ≡ n
places-are-one tokens m n h k = longest-one IsWholeComponent tokens m n h.first k.first

pub faults-exclude : (tokens : List Token) (c : RawComponent) (place : ℕ) → SpellsComponent c tokens → IsComponentFault tokens place → ⊥
faults-exclude tokens c place h k = k.none c h

pub reading-tells-place : (c : RawComponent) (tokens h us rest : List Token) (place : ℕ) → tokens ≡ h ++ us → Header c h → AreReadOn c.kind [] c.clauses us rest → (((t : Token) (ts : List Token) → rest ≡ t ∷ ts → t.kind ≡ Word END → ⊥) → place + length rest ≡ length tokens → IsLongestWhole IsWholeComponent tokens place) × ((t : Token) (ts : List Token) → rest ≡ t ∷ ts → t.kind ≡ Word END → place + length ts ≡ length tokens → IsLongestWhole IsWholeComponent tokens place)
reading-tells-place c tokens h us rest place is header read =
    ((λ none at. place-open c tokens h us rest is header read none place at), (λ t ts e k at. place-closed c tokens h us rest is header read t ts e k place (omega (arith, at, ap length e))))

-- one place, and so one byte
pub component-places-are-one : PlacesAreOne
component-places-are-one tokens = (places-are-one tokens, λ text_length m n p q. p.2 ∙ ap (byte_at text_length tokens) (places-are-one tokens p.0 q.0 p.1 q.1) ∙ sym q.2)
