-- The fault that is told is one of those that there are, and none is before it.
use Rattle.std.proofs.Common.{◌≡◌, inl, inr, ℕ, List, [], ◌∷◌, ◌++◌, refl, sym, ◌∙◌, ap, subst, Bool, true, false, cond, ◌&&◌, ◌||◌, arith, nat_eq, nat_lt}
use Rattle.std.specs.Prelude.{Option, None, Some}
use Rattle.std.proofs.lemmas.Bool.Decides.{nat_tests}
use Rattle.bk_raw.specs.Errors.Blame.{rank, is_before, first_of, blame, earlier, IsOneOf, NoneIsBefore, IsBlameOf}
use Rattle.bk_raw.specs.Errors.Faults.{Fault}

not-itself : (a p : ℕ) → (nat_lt a a || (nat_eq a a && nat_lt p p)) ≡ false
not-itself a p = grind (arith, nat_tests)

-- what is not before f, and f not before g, is not before g
not-through : (a b c p q r : ℕ) → (nat_lt c b || (nat_eq c b && nat_lt r q)) ≡ false → (nat_lt b a || (nat_eq b a && nat_lt q p)) ≡ false → (nat_lt c a || (nat_eq c a && nat_lt r p)) ≡ false
not-through a b c p q r h k = grind (arith, nat_tests)

none-through : (f g : Fault) (fs : List Fault) → is_before g f ≡ false → NoneIsBefore g fs → NoneIsBefore f fs
none-through f g [] e h = tt
none-through f g (x ∷ xs) e h = (not-through (rank f.0) (rank g.0) (rank x.0) f.1 g.1 x.1 h.0 e, none-through f g xs e h.1)

-- the later one is before it: so it is not before the later one
not-back : (a b p q : ℕ) → (nat_lt b a || (nat_eq b a && nat_lt q p)) ≡ true → (nat_lt a b || (nat_eq a b && nat_lt p q)) ≡ false
not-back a b p q h = grind (arith, nat_tests)

first-blamed : (f g : Fault) (fs : List Fault) (c : Bool) → is_before g f ≡ c → IsOneOf g fs → NoneIsBefore g fs → IsBlameOf (Some (cond c g f)) (f ∷ fs)
first-blamed f g fs true e h k = (inr h, (not-back (rank f.0) (rank g.0) f.1 g.1 e, k))
first-blamed f g fs false e h k = (inl refl, (not-itself (rank f.0) f.1, none-through f g fs e k))

blamed-onto : (f : Fault) (o : Option Fault) (fs : List Fault) → IsBlameOf o fs → IsBlameOf (Some (first_of f o)) (f ∷ fs)
blamed-onto f None fs h = subst (λ l. IsBlameOf (Some f) (f ∷ l)) (sym h) (inl refl, (not-itself (rank f.0) f.1, tt))
blamed-onto f (Some g) fs h = first-blamed f g fs (is_before g f) refl h.0 h.1

pub blame-right : (fs : List Fault) → IsBlameOf (blame fs) fs
blame-right [] = refl
blame-right (f ∷ fs) = blamed-onto f (blame fs) fs (blame-right fs)

-- ---- what is told of two lists, one after the other, is the earlier of what is told of each
choose : (f : Fault) (g : Fault) (c : Bool) → is_before g f ≡ c → first_of f (Some g) ≡ cond c g f
choose f g c e = ap (λ b. cond b g f) e

first-through : (a b c p q r : ℕ) → (nat_lt b a || (nat_eq b a && nat_lt q p)) ≡ true → (nat_lt c b || (nat_eq c b && nat_lt r q)) ≡ true → (nat_lt c a || (nat_eq c a && nat_lt r p)) ≡ true
first-through a b c p q r h k = grind (arith, nat_tests)

associate : (f g h : Fault) (c d : Bool) → is_before g f ≡ c → is_before h g ≡ d → first_of f (Some (first_of g (Some h))) ≡ first_of (first_of f (Some g)) (Some h)
associate f g h true true e k =
    ap (λ x. first_of f (Some x)) (choose g h true k) ∙ choose f h true (first-through (rank f.0) (rank g.0) (rank h.0) f.1 g.1 h.1 e k) ∙ sym (ap (λ x. first_of x (Some h)) (choose f g true e) ∙ choose g h true k)
associate f g h true false e k =
    ap (λ x. first_of f (Some x)) (choose g h false k) ∙ choose f g true e ∙ sym (ap (λ x. first_of x (Some h)) (choose f g true e) ∙ choose g h false k)
associate f g h false true e k = ap (λ x. first_of f (Some x)) (choose g h true k) ∙ sym (ap (λ x. first_of x (Some h)) (choose f g false e))
associate f g h false false e k =
    ap (λ x. first_of f (Some x)) (choose g h false k) ∙ choose f g false e ∙ sym (ap (λ x. first_of x (Some h)) (choose f g false e) ∙ choose f h false (not-through (rank f.0) (rank g.0) (rank h.0) f.1 g.1 h.1 k e))

earlier-join : (f : Fault) (o p : Option Fault) → Some (first_of f (earlier o p)) ≡ earlier (Some (first_of f o)) p
earlier-join f None p = refl
earlier-join f (Some g) None = refl
earlier-join f (Some g) (Some h) = ap Some (associate f g h (is_before g f) (is_before h g) refl refl)

pub blame-joins : (fs gs : List Fault) → blame (fs ++ gs) ≡ earlier (blame fs) (blame gs)
blame-joins [] gs = refl
blame-joins (f ∷ fs) gs = ap (λ o. Some (first_of f o)) (blame-joins fs gs) ∙ earlier-join f (blame fs) (blame gs)

-- ---- the earlier of what is told
pub earlier-none : (o : Option Fault) → earlier o None ≡ o
earlier-none None = refl
earlier-none (Some f) = refl

pub earlier-joins : (o p q : Option Fault) → earlier (earlier o p) q ≡ earlier o (earlier p q)
earlier-joins None p q = refl
earlier-joins (Some f) p q = sym (earlier-join f p q)

-- nothing is told of faults only where there are none
pub blame-none : (fs : List Fault) → blame fs ≡ None → fs ≡ []
blame-none [] e = refl
blame-none (f ∷ fs) e = cc

pub ruleset blames = (blame-joins, earlier-none, earlier-joins, blame-none)
