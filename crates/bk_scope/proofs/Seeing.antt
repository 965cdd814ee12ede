-- Names with the types of their numbers: told while they are read, and kept beside them, they are the same. So ways give the same types.
use Rattle.std.proofs.Common.{◌≡◌, refl, ap, ◌∙◌, ℕ, ℤ, zero, suc, false, List, [], ◌∷◌, map}
use Rattle.std.specs.Prelude.{Option, slice_get}
use Rattle.std.specs.Borrow.{Bor}
use Rattle.bk_val.specs.ValueType.{ValueType, set_type}
use Rattle.bk_raw.specs.declared.term.RawName.{RawName}
use Rattle.bk_raw.specs.Trees.RawTree.{RawTree}
use Rattle.bk_raw.specs.Meaning.Names.{Meaning, Names, level_name}
use Rattle.bk_raw.specs.Meaning.Outcome.{Outcome, partial, whole, ask_value, ask_domain}
use Rattle.bk_form.specs.Formula.{Formula}
use Rattle.bk_raw.specs.Meaning.Binders.{Bound, bound_names, second}
use Rattle.bk_raw.specs.Meaning.TermReading.{place_of, part, reading, clues}
use Rattle.bk_elab_terms.specs.declared.sight.Standing.{Standing}
use Rattle.bk_elab_terms.specs.declared.sight.Standing.TheVariants.{Variable, Set, Element}
use Rattle.bk_elab_terms.specs.declared.sight.Visible.{Visible}
use Rattle.bk_elab_terms.specs.declared.visible.Sight.{Sight}
use Rattle.bk_elab_terms.specs.Visible.{told_at, typing_of, meaning_of, typed_meaning, visible_names, seen_names, reading_by, types_by}
use Rattle.bk_statics.specs.Binders.{old_texts}
use Rattle.bk_statics.specs.Typings.{typed, with_type, as_variable, numbered_old}
use Rattle.bk_statics.specs.Ways.{given_by, by_term, by_domain, by_conjuncts, bound_type}
use Rattle.bk_scope.specs.Shown.{refs, numbered_texts}

meaning-typed : (ts : List (Option ValueType)) (m : Standing) → typed_meaning ts m ≡ with_type (typing_of ts) (meaning_of m)
meaning-typed ts (Variable n) = refl
meaning-typed ts (Set s) = refl
meaning-typed ts (Element s i) = refl

-- a name in front of others
abbrev in-front : List ℕ → Meaning → Names → Names
in-front x m ns = record { text = x; meaning = m } ∷ ns

-- what is in sight is the names with the types that are told
pub seen-typed : (ts : List (Option ValueType)) (vs : List Visible) → seen_names ts vs ≡ typed (typing_of ts) (visible_names vs)
seen-typed ts [] = refl
seen-typed ts (v ∷ vs) =
    ap (λ (m : Meaning). in-front v.text.now m (seen_names ts vs)) (meaning-typed ts v.meaning)
    ∙ ap (λ (ns : Names). in-front v.text.now (with_type (typing_of ts) (meaning_of v.meaning)) ns) (seen-typed ts vs)

-- ---- what ways give
-- what a place asks does not depend on where it stands
value-answer : (p q : ℕ) (o : Outcome) → (ask_value p o).answer ≡ (ask_value q o).answer
value-answer p q (partial (whole f t)) = refl
value-answer p q _ = refl

domain-answer : (p q : ℕ) (o : Outcome) → (ask_domain p o).answer ≡ (ask_domain q o).answer
domain-answer p q (partial (whole f (set_type t))) = refl
domain-answer p q _ = refl

-- the type that a term gives
pub term-gives : (s : Sight) (e : RawTree) → second (ask_value (place_of e) (reading_by false s e).outcome).answer ≡ given_by s.max (typing_of s.types.now) (by_term (visible_names s.names.now) e)
term-gives s e =
    ap second (value-answer (place_of e) 0 (reading_by false s e).outcome)
    ∙ ap (λ (ns : Names). second (ask_value 0 (part false e (reading s.max ns e)).outcome).answer) (seen-typed s.types.now s.names.now)

-- the type over which a domain ranges
pub domain-gives : (s : Sight) (e : RawTree) → second (ask_domain (place_of e) (reading_by false s e).outcome).answer ≡ given_by s.max (typing_of s.types.now) (by_domain (visible_names s.names.now) e)
domain-gives s e =
    ap second (domain-answer (place_of e) 0 (reading_by false s e).outcome)
    ∙ ap (λ (ns : Names). second (ask_domain 0 (part false e (reading s.max ns e)).outcome).answer) (seen-typed s.types.now s.names.now)

told-bound : (bs : List Bound) (i : ℕ) → told_at (slice_get (map (λ (b : Bound). b.of_type) bs) i) ≡ bound_type (slice_get bs i)
told-bound [] i = refl
told-bound (b ∷ bs) zero = refl
told-bound (b ∷ bs) (suc i) = told-bound bs i

-- the type that conjuncts give to one of the names of a group
pub conjuncts-give : (s : Sight) (xs : List (Bor RawName)) (p : RawTree) (i : ℕ) → told_at (slice_get (types_by s xs p) i) ≡ given_by s.max (typing_of s.types.now) (by_conjuncts (visible_names s.names.now) (refs xs) i p)
conjuncts-give s xs p i =
    told-bound (clues s.max (seen_names s.types.now s.names.now) (bound_names (refs xs)) p) i
    ∙ ap (λ (ns : Names). bound_type (slice_get (clues s.max ns (bound_names (refs xs)) p) i)) (seen-typed s.types.now s.names.now)

-- old values by the texts of their names
pub numbered-old : (n : ℕ) (xs : List RawName) → numbered_texts n (old_texts xs) ≡ numbered_old n xs
numbered-old n [] = refl
numbered-old n (x ∷ xs) = ap (λ (ns : Names). as_variable (level_name x.text 0) n ∷ ns) (numbered-old (suc n) xs)

-- the same by what the sight has
pub term-told : (s : Sight) (max : ℤ) (types : List (Option ValueType)) (names : List Visible) (e : RawTree) (answer : Option (Formula × ValueType)) → s.max ≡ max → s.types.now ≡ types → s.names.now ≡ names → answer ≡ (ask_value (place_of e) (reading_by false s e).outcome).answer → second answer ≡ given_by max (typing_of types) (by_term (visible_names names) e)
term-told s max types names e answer em et en h =
    ap second h ∙ term-gives s e
    ∙ ap (λ (m : ℤ). given_by m (typing_of s.types.now) (by_term (visible_names s.names.now) e)) em
    ∙ ap (λ (ts : List (Option ValueType)). given_by max (typing_of ts) (by_term (visible_names s.names.now) e)) et
    ∙ ap (λ (vs : List Visible). given_by max (typing_of types) (by_term (visible_names vs) e)) en

pub domain-told : (s : Sight) (max : ℤ) (types : List (Option ValueType)) (names : List Visible) (e : RawTree) (answer : Option (Formula × ValueType)) → s.max ≡ max → s.types.now ≡ types → s.names.now ≡ names → answer ≡ (ask_domain (place_of e) (reading_by false s e).outcome).answer → second answer ≡ given_by max (typing_of types) (by_domain (visible_names names) e)
domain-told s max types names e answer em et en h =
    ap second h ∙ domain-gives s e
    ∙ ap (λ (m : ℤ). given_by m (typing_of s.types.now) (by_domain (visible_names s.names.now) e)) em
    ∙ ap (λ (ts : List (Option ValueType)). given_by max (typing_of ts) (by_domain (visible_names s.names.now) e)) et
    ∙ ap (λ (vs : List Visible). given_by max (typing_of types) (by_domain (visible_names vs) e)) en

pub conjuncts-told : (s : Sight) (max : ℤ) (types : List (Option ValueType)) (names : List Visible) (xs ys : List (Bor RawName)) (p : RawTree) (i : ℕ) (ts : List (Option ValueType)) → s.max ≡ max → s.types.now ≡ types → s.names.now ≡ names → xs ≡ ys → ts ≡ types_by s xs p → told_at (slice_get ts i) ≡ given_by max (typing_of types) (by_conjuncts (visible_names names) (refs ys) i p)
conjuncts-told s max types names xs ys p i ts em et en ex h =
    ap (λ (us : List (Option ValueType)). told_at (slice_get us i)) h ∙ conjuncts-give s xs p i
    ∙ ap (λ (m : ℤ). given_by m (typing_of s.types.now) (by_conjuncts (visible_names s.names.now) (refs xs) i p)) em
    ∙ ap (λ (us : List (Option ValueType)). given_by max (typing_of us) (by_conjuncts (visible_names s.names.now) (refs xs) i p)) et
    ∙ ap (λ (vs : List Visible). given_by max (typing_of types) (by_conjuncts (visible_names vs) (refs xs) i p)) en
    ∙ ap (λ (zs : List (Bor RawName)). given_by max (typing_of types) (by_conjuncts (visible_names names) (refs zs) i p)) ex
