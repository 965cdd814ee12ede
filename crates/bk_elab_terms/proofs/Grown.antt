-- Bound names that get types: what is found of each name.
use Rattle.std.proofs.Common.{◌≡◌, ◌⊎◌, inl, inr, ℕ, suc, ℤ, List, [], ◌∷◌, refl, sym, ◌∙◌, ap, subst, Bool, true, false, cond, not, ◌&&◌}
use Rattle.std.specs.Prelude.{Option, None, Some}
use Rattle.std.specs.Str.{bytes_eq}
use Rattle.std.proofs.lemmas.Slice.Eq.{bytes_eq-Decides}
use Rattle.bk_val.specs.ValueType.{ValueType}
use Rattle.bk_raw.specs.declared.operator.InfixOp.{InfixOp}
use Rattle.bk_raw.specs.declared.operator.InfixOp.TheVariants.{And, Member, Subset, StrictSubset, Equal}
use Rattle.bk_raw.specs.Trees.RawTree.{RawTree, raw, raw_infix}
use Rattle.bk_raw.specs.Trees.FreeNames.{stands_free}
use Rattle.bk_raw.specs.Meaning.Names.{Names, local, Sight, sight, found, count_locals}
use Rattle.bk_raw.specs.Meaning.Outcome.{Outcome, ask_domain, ask_value}
use Rattle.bk_raw.specs.Meaning.Binders.{Bound, inside, has_type, typed_as, typed_by, first_type, second, set_over, told_by}
use Rattle.bk_raw.specs.Meaning.Printed.{set_type_of}
use Rattle.bk_raw.specs.Meaning.TermReading.{reading, name_of, clues}
use Rattle.bk_raw.proofs.BoundNames.{no-name, or-neither, either}
use Rattle.bk_raw.proofs.ReadingKept.{SameAt}
use Rattle.bk_elab_terms.specs.Kept.{TypeGrows, Grows, names_untyped}

-- ---- names that get types
type-itself : (t : Option ValueType) → TypeGrows t t
type-itself None = tt
type-itself (Some t) = refl

type-through : (t u v : Option ValueType) → TypeGrows t u → TypeGrows u v → TypeGrows t v
type-through None u v h k = tt
type-through (Some t) u v h k = subst (λ (w : Option ValueType). TypeGrows w v) h k

pub grows-itself : (bs : List Bound) → Grows bs bs
grows-itself [] = tt
grows-itself (b ∷ bs) = (refl, type-itself b.of_type, grows-itself bs)

pub grows-through : (bs cs ds : List Bound) → Grows bs cs → Grows cs ds → Grows bs ds
grows-through [] [] [] h k = tt
grows-through [] [] (d ∷ ds) h k = absurd k
grows-through [] (c ∷ cs) ds h k = absurd h
grows-through (b ∷ bs) [] ds h k = absurd h
grows-through (b ∷ bs) (c ∷ cs) [] h k = absurd k
grows-through (b ∷ bs) (c ∷ cs) (d ∷ ds) h k = (k.0 ∙ h.0, type-through b.of_type c.of_type d.of_type h.1 k.1, grows-through bs cs ds h.2 k.2)

first-grows : (u : Option ValueType) (t : ValueType) → TypeGrows u (first_type u t)
first-grows None t = tt
first-grows (Some u) t = refl

typed-grows : (text : List ℕ) (t : ValueType) (bs : List Bound) → Grows bs (typed_as text t bs)
typed-grows text t [] = tt
typed-grows text t (b ∷ bs) = by (bytes_eq b.text text) (typed-grows text t bs)
  where
    by : (c : Bool) → Grows bs (typed_as text t bs) → Grows (b ∷ bs) (cond c (record { text = b.text; at = b.at; of_type = first_type b.of_type t } ∷ bs) (b ∷ typed_as text t bs))
    by true h = (refl, first-grows b.of_type t, grows-itself bs)
    by false h = (refl, type-itself b.of_type, h)

by-grows : (text : List ℕ) (o : Option ValueType) (bs : List Bound) → Grows bs (typed_by text o bs)
by-grows text None bs = grows-itself bs
by-grows text (Some t) bs = typed-grows text t bs

told-grows : (o : InfixOp) (bs : List Bound) (y : Option (List ℕ)) (both : List Bound) (d : Outcome) → Grows bs both → Grows bs (told_by o bs y both d)
told-grows And bs y both d h = h
told-grows Member bs (Some y) both d h = by-grows y (second (ask_domain 0 d).answer) bs
told-grows Subset bs (Some y) both d h = by-grows y (set_over (second (ask_domain 0 d).answer)) bs
told-grows StrictSubset bs (Some y) both d h = by-grows y (set_over (second (ask_domain 0 d).answer)) bs
told-grows Equal bs (Some y) both d h = by-grows y (second (ask_value 0 d).answer) bs
told-grows _ bs y both d h = grows-itself bs

-- the names of a binder stay, and so do their types
pub clues-grow : (m : ℤ) (t : RawTree) (names : Names) (bs : List Bound) → Grows bs (clues m names bs t)
clues-grow m (raw at (raw_infix o a d)) names bs =
    told-grows o bs (name_of a) (clues m names (clues m names bs a) d) (reading m (inside bs names) d).outcome
    (grows-through bs (clues m names bs a) (clues m names (clues m names bs a) d) (clues-grow m a names bs) (clues-grow m d names (clues m names bs a)))
clues-grow m (raw at _) names bs = grows-itself bs

-- ---- what is found
abbrev SetsAlike : Names → Names → Type 0
SetsAlike ns ms = (i : ℕ) (x : List ℕ) → set_type_of (found i ns x) ≡ set_type_of (found i ms x)

no-set : (i : ℕ) (t : Option ValueType) → set_type_of (sight i (local t)) ≡ None
no-set i None = refl
no-set i (Some t) = refl

one-alike : (c d : Bool) (s t r q : Sight) → d ≡ c → set_type_of s ≡ set_type_of t → set_type_of r ≡ set_type_of q → set_type_of (cond c s r) ≡ set_type_of (cond d t q)
one-alike c d s t r q e h k = by c ∙ sym (ap (λ (b : Bool). set_type_of (cond b t q)) e)
  where
    by : (b : Bool) → set_type_of (cond b s r) ≡ set_type_of (cond b t q)
    by true = h
    by false = k

more-alike : (b c : Bound) (ns ms : Names) → c.text ≡ b.text → SetsAlike ns ms → SetsAlike (record { text = b.text; meaning = local b.of_type } ∷ ns) (record { text = c.text; meaning = local c.of_type } ∷ ms)
more-alike b c ns ms e h i x = one-alike (bytes_eq b.text x) (bytes_eq c.text x) (sight i (local b.of_type)) (sight i (local c.of_type)) (found (suc i) ns x) (found (suc i) ms x) (ap (λ (y : List ℕ). bytes_eq y x) e) (no-set i b.of_type ∙ sym (no-set i c.of_type)) (h (suc i) x)

pub sets-alike : (bs cs : List Bound) (ns ms : Names) → Grows bs cs → SetsAlike ns ms → SetsAlike (inside bs ns) (inside cs ms)
sets-alike [] [] ns ms g h = h
sets-alike [] (c ∷ cs) ns ms g h = absurd g
sets-alike (b ∷ bs) [] ns ms g h = absurd g
sets-alike (b ∷ bs) (c ∷ cs) ns ms g h = sets-alike bs cs (record { text = b.text; meaning = local b.of_type } ∷ ns) (record { text = c.text; meaning = local c.of_type } ∷ ms) g.2 (more-alike b c ns ms g.0 h)

pub count-alike : (bs cs : List Bound) (ns ms : Names) → Grows bs cs → count_locals ns ≡ count_locals ms → count_locals (inside bs ns) ≡ count_locals (inside cs ms)
count-alike [] [] ns ms g h = h
count-alike [] (c ∷ cs) ns ms g h = absurd g
count-alike (b ∷ bs) [] ns ms g h = absurd g
count-alike (b ∷ bs) (c ∷ cs) ns ms g h = count-alike bs cs (record { text = b.text; meaning = local b.of_type } ∷ ns) (record { text = c.text; meaning = local c.of_type } ∷ ms) g.2 (ap suc h)

-- none of the names without a type is this one
abbrev pub NoneIs : List ℕ → List Bound → Type 0
NoneIs x [] = Unit {0}
NoneIs x (b ∷ bs) = ((has_type b.of_type ≡ true) ⊎ (bytes_eq b.text x ≡ false)) × NoneIs x bs

one-same : (b c : Bound) (ns ms : Names) (x : List ℕ) → c.text ≡ b.text → TypeGrows b.of_type c.of_type → (has_type b.of_type ≡ true) ⊎ (bytes_eq b.text x ≡ false) → SameAt ns ms x →
    SameAt (record { text = b.text; meaning = local b.of_type } ∷ ns) (record { text = c.text; meaning = local c.of_type } ∷ ms) x
one-same b c ns ms x e g n h i =
    elim n [
      | inl t ↦ typed b.of_type g t
      | inr f ↦ ap (λ (y : Bool). cond y (sight i (local b.of_type)) (found (suc i) ns x)) f ∙ (h (suc i) ∙ sym (ap (λ (y : Bool). cond y (sight i (local c.of_type)) (found (suc i) ms x)) (ap (λ (z : List ℕ). bytes_eq z x) e ∙ f)))
    ]
  where
    typed : (t : Option ValueType) → TypeGrows t c.of_type → has_type t ≡ true → cond (bytes_eq b.text x) (sight i (local t)) (found (suc i) ns x) ≡ cond (bytes_eq c.text x) (sight i (local c.of_type)) (found (suc i) ms x)
    typed None g t = no-name t
    typed (Some t) g k =
        ap (λ (s : Sight). cond (bytes_eq b.text x) (sight i (local (Some t))) s) (h (suc i))
        ∙ (ap (λ (u : Option ValueType). cond (bytes_eq b.text x) (sight i (local u)) (found (suc i) ms x)) (sym g)
        ∙ ap (λ (y : List ℕ). cond (bytes_eq y x) (sight i (local c.of_type)) (found (suc i) ms x)) (sym e))

pub same-grown : (bs cs : List Bound) (ns ms : Names) (x : List ℕ) → Grows bs cs → NoneIs x bs → SameAt ns ms x → SameAt (inside bs ns) (inside cs ms) x
same-grown [] [] ns ms x g n h = h
same-grown [] (c ∷ cs) ns ms x g n h = absurd g
same-grown (b ∷ bs) [] ns ms x g n h = absurd g
same-grown (b ∷ bs) (c ∷ cs) ns ms x g n h = same-grown bs cs (record { text = b.text; meaning = local b.of_type } ∷ ns) (record { text = c.text; meaning = local c.of_type } ∷ ms) x g.2 n.1 (one-same b c ns ms x g.0 g.1 n.0 h)

-- a name free in the term is none of those without a type, where none of them is free in it
pub none-is : (bs : List Bound) (t : RawTree) (x : List ℕ) → names_untyped bs t ≡ false → stands_free x t ≡ true → NoneIs x bs
none-is [] t x h k = tt
none-is (b ∷ bs) t x h k = let n = or-neither (not (has_type b.of_type) && stands_free b.text t) (names_untyped bs t) h in (here (has_type b.of_type) n.0, none-is bs t x n.1 k)
  where
    other : stands_free b.text t ≡ false → bytes_eq b.text x ≡ false
    other f = elim (either (bytes_eq b.text x)) [ inl e ↦ no-name (sym f ∙ (ap (λ (y : List ℕ). stands_free y t) ((bytes_eq-Decides b.text x).0 e) ∙ k)) | inr e ↦ e ]

    here : (c : Bool) → (not c && stands_free b.text t) ≡ false → (c ≡ true) ⊎ (bytes_eq b.text x ≡ false)
    here true e = inl refl
    here false e = inr (other e)
