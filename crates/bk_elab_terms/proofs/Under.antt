-- Terms under names in sight: what they read as, what is asked of them, and the types that conjuncts give.
use Rattle.std.proofs.Common.{◌≡◌, ℕ, ◌+◌, ◌<◌, length, take, get_or, List, [], ◌∷◌, ◌++◌, map, refl, sym, ◌∙◌, ap, subst}
use Rattle.std.specs.Borrow.{Bor}
use Rattle.std.specs.Prelude.{Option, None, Result, Ok, Err, IfOk}
use Rattle.std.proofs.lemmas.List.{take_more}
use Rattle.bk_val.specs.ValueType.{ValueType}
use Rattle.bk_raw.specs.declared.term.RawName.{RawName}
use Rattle.bk_raw.specs.Meaning.Binders.{Bound, bound_names, locals}
use Rattle.bk_raw.specs.Trees.RawTree.{RawTree}
use Rattle.bk_raw.specs.Meaning.Outcome.{Outcome, Reading, Asked}
use Rattle.bk_raw.specs.Meaning.TermReading.{clues}
use Rattle.bk_raw.specs.Errors.Blame.{earlier}
use Rattle.bk_elab_terms.specs.declared.blame.Fault.{Fault as ToldFault}
use Rattle.bk_elab_terms.specs.declared.outcome.Step.{Step}
use Rattle.bk_elab_terms.specs.declared.sight.Local.{Local}
use Rattle.bk_elab_terms.specs.declared.sight.Reader.{Reader}
use Rattle.bk_elab_terms.specs.declared.visible.Sight.{Sight}
use Rattle.bk_elab_terms.specs.Shown.{shown_outcome, told, IsRead, IsAsked}
use Rattle.bk_elab_terms.specs.Sights.{around_of, around_by, bounds_of, bounds_from, names_below, StandsBelow}
use Rattle.bk_elab_terms.specs.Visible.{asked_behind, types_by}
use Rattle.bk_raw.proofs.Blamed.{blame-joins}

-- what a place asks of it
pub asked-under : {A : Type 0} (ask : Outcome → Asked A) (q : Reading) (read : Step) (answer other : Option A) (fault all : Option ToldFault) → IsRead read q →
    IsAsked answer fault (ask (shown_outcome read.outcome)) → other ≡ answer → told all ≡ earlier (told read.fault) (told fault) → IsAsked other all (asked_behind q (ask q.outcome))
asked-under ask q read answer other fault all h g e f =
    let asked : IsAsked answer fault (ask q.outcome) = subst (λ (o : Outcome). IsAsked answer fault (ask o)) h.outcome g in
    record { same = e ∙ asked.same; first = f ∙ ((λ i. earlier (h.fault i) (asked.first i)) ∙ sym (blame-joins q.faults (ask q.outcome).faults)) }

-- the types of bound names
pub types-bound : (ls : List Local) → map (λ (b : Bound). b.of_type) (bounds_of ls) ≡ map (λ (l : Local). l.ty) ls
types-bound [] = refl
types-bound (l ∷ ls) = ap (λ (ts : List (Option ValueType)). l.ty ∷ ts) (types-bound ls)

-- those that conjuncts give
pub types-under : (s : Sight) (start old new : Reader) (xs : List (Bor RawName)) (p : RawTree) (types : List (Option ValueType)) → start.locals.items ≡ [] → around_of start ≡ around_by s →
    bounds_from (length start.locals.items) old ≡ bound_names (map (λ x. x.now) xs) → StandsBelow (length start.locals.items) start old →
    bounds_from 0 new ≡ clues (around_of old).max (names_below 0 old) (bounds_from 0 old) p → types ≡ map (λ (l : Local). l.ty) new.locals.items → types ≡ types_by s xs p
types-under s start old new xs p types none a b k c e =
    let begun : bounds_from 0 old ≡ bound_names (map (λ x. x.now) xs) = subst (λ (ls : List Local). bounds_from (length ls) old ≡ bound_names (map (λ x. x.now) xs)) none b in
    let around : around_of old ≡ around_by s = k.scope ∙ a in
    e ∙ (sym (types-bound new.locals.items) ∙ ap (λ (bs : List Bound). map (λ (b : Bound). b.of_type) bs) (c ∙ (λ i. clues (around i).max (around i).names (begun i) p)))

-- names elsewhere, one more
pub references-more : (xs : List (Bor RawName)) (i : ℕ) (d : Bor RawName) → i < length xs → bound_names (map (λ x. x.now) (take (i + 1) xs)) ≡
    bound_names (map (λ x. x.now) (take i xs)) ++ record { text = (get_or xs i d).now.text; at = (get_or xs i d).now.at; of_type = None } ∷ []
references-more xs i d h = ap (λ (ys : List (Bor RawName)). bound_names (map (λ y. y.now) ys)) (take_more xs i d h) ∙ joined (take i xs) (get_or xs i d)
  where
    joined : (ys : List (Bor RawName)) (y : Bor RawName) → bound_names (map (λ x. x.now) (ys ++ y ∷ [])) ≡ bound_names (map (λ x. x.now) ys) ++ record { text = y.now.text; at = y.now.at; of_type = None } ∷ []
    joined [] y = refl
    joined (z ∷ zs) y = ap (λ (bs : List Bound). record { text = z.now.text; at = z.now.at; of_type = None } ∷ bs) (joined zs y)

-- of what may fail
pub ok-so : {A E : Type 0} (r : Result A E) (P Q : A → Type 0) → IfOk r P → ((a : A) → P a → Q a) → IfOk r Q
ok-so (Err x) P Q h f = tt
ok-so (Ok a) P Q h f = f a h

pub ruleset referring = (references-more)
