-- What a level binds is an interval of numbers behind all that are there.
use Rattle.std.proofs.Common.{◌≡◌, ◌⊎◌, inl, inr, ℕ, ◌+◌, ◌<◌, ◌≤◌, List, [], ◌∷◌, ◌++◌, length, refl, sym, ◌∙◌, ap, subst, Bool, true, false, ◌||◌, arith, nat_eq}
use Rattle.std.specs.Prelude.{ℤ}
use Rattle.std.specs.List.{flat_map}
use Rattle.std.proofs.lemmas.Bool.Decides.{nat_tests}
use Rattle.bk_gsl.specs.State.{among}
use Rattle.bk_dev.specs.Facts.{binders, AreDistinct}
use Rattle.bk_raw.specs.Trees.SubTree.{SubTree, sub, SubNode, sub_skip, sub_call, sub_assign, sub_assign_at, sub_member, sub_such, sub_begin, sub_pre, sub_assert, sub_if, sub_choice, sub_select, sub_any, sub_let, sub_var, sub_while, sub_parallel, sub_sequence, Branches, no_branches, else_branch, branch_and, Choices, no_choices, choice_and}
use Rattle.bk_statics.specs.Typings.{Typing, interval}
use Rattle.bk_statics.specs.Binders.{binder_count}
use Rattle.bk_statics.proofs.Intervals.{interval-join, binds-interval}
use Rattle.bk_statics.proofs.SubStays.{nat_eq-then, or-cases, or-left, or-right}
use Rattle.bk_statics.specs.Components.{Component, inner_body, initialisation}
use Rattle.bk_statics.specs.Plan.{Headed, Placed, placed, Plan, output_count, scope, body_scope}
use Rattle.bk_statics.specs.LevelOf.{bodies_made, level_made}
use Rattle.bk_statics.specs.LevelLaws.{body_count}

pub inner-count : (s : SubTree) → binder_count (inner_body s) ≡ binder_count s
inner-count (sub at (sub_begin s)) = inner-count s
inner-count (sub at (sub_pre p s)) = refl
inner-count (sub at sub_skip) = refl
inner-count (sub at (sub_call ys o ts)) = refl
inner-count (sub at (sub_assign xs es)) = refl
inner-count (sub at (sub_assign_at x e v)) = refl
inner-count (sub at (sub_member x e)) = refl
inner-count (sub at (sub_such xs p)) = refl
inner-count (sub at (sub_assert p s)) = refl
inner-count (sub at (sub_if p s bs)) = refl
inner-count (sub at (sub_choice s cs)) = refl
inner-count (sub at (sub_select p s bs)) = refl
inner-count (sub at (sub_any xs p s)) = refl
inner-count (sub at (sub_let xs p s)) = refl
inner-count (sub at (sub_var xs s)) = refl
inner-count (sub at (sub_while p s i v)) = refl
inner-count (sub at (sub_parallel s t)) = refl
inner-count (sub at (sub_sequence s t)) = refl

outputs-interval : (int_max : ℤ) (typing : Typing) (p : Plan) (n b : ℕ) (hs : List Headed) → flat_map (λ b. b.outputs) (bodies_made int_max typing p (placed n b hs)) ≡ interval n (output_count hs)
outputs-interval int_max typing p n b [] = refl
outputs-interval int_max typing p n b (h ∷ hs) =
    ap (λ l. interval n (length h.operation.outputs) ++ l) (outputs-interval int_max typing p (n + length h.operation.outputs) (b + binder_count h.operation.body) hs)
    ∙ interval-join n (length h.operation.outputs) (output_count hs)

bodies-interval : (int_max : ℤ) (typing : Typing) (p : Plan) (n b : ℕ) (hs : List Headed) → flat_map (λ b. binders b.sub) (bodies_made int_max typing p (placed n b hs)) ≡ interval b (body_count hs)
bodies-interval int_max typing p n b [] = refl
bodies-interval int_max typing p n b (h ∷ hs) =
    let o : Placed = record { headed = h; outputs_at = n; binders_at = b } in
    let first = binds-interval (inner_body h.operation.body) int_max typing p.upper (body_scope p o) b ∙ ap (interval b) (inner-count h.operation.body) in
    (λ i. first i ++ bodies-interval int_max typing p (n + length h.operation.outputs) (b + binder_count h.operation.body) hs i)
    ∙ interval-join b (binder_count h.operation.body) (body_count hs)

pub level-outputs : (int_max : ℤ) (typing : Typing) (p : Plan) (comp : Component) → flat_map (λ b. b.outputs) (level_made int_max typing p comp).bodies ≡ interval p.outputs_at (output_count p.headed)
level-outputs int_max typing p comp = outputs-interval int_max typing p p.outputs_at (p.binders_at + binder_count (initialisation comp)) p.headed

pub level-binders : (int_max : ℤ) (typing : Typing) (p : Plan) (comp : Component) → binders (level_made int_max typing p comp).init ++ flat_map (λ b. binders b.sub) (level_made int_max typing p comp).bodies ≡ interval p.binders_at (binder_count (initialisation comp) + body_count p.headed)
level-binders int_max typing p comp =
    (λ i. binds-interval (initialisation comp) int_max typing p.upper (scope p) p.binders_at i ++ bodies-interval int_max typing p p.outputs_at (p.binders_at + binder_count (initialisation comp)) p.headed i)
    ∙ interval-join p.binders_at (binder_count (initialisation comp)) (body_count p.headed)

-- ---- lists of different numbers
among-join : (xs ys : List ℕ) (n : ℕ) → among (xs ++ ys) n ≡ (among xs n || among ys n)
among-join [] ys n = refl
among-join (x ∷ xs) ys n = ap (λ b. nat_eq n x || b) (among-join xs ys n) ∙ or-assoc (nat_eq n x) (among xs n) (among ys n)
  where
    or-assoc : (a b c : Bool) → (a || (b || c)) ≡ ((a || b) || c)
    or-assoc true b c = refl
    or-assoc false b c = refl

pub join-cases : (xs ys : List ℕ) (n : ℕ) → among (xs ++ ys) n ≡ true → (among xs n ≡ true) ⊎ (among ys n ≡ true)
join-cases xs ys n h = or-cases (among xs n) (among ys n) (sym (among-join xs ys n) ∙ h)

not-true : (b : Bool) → (b ≡ true → ⊥) → b ≡ false
not-true true f = absurd (f refl)
not-true false f = refl

both-false : (a b : Bool) → a ≡ false → b ≡ false → (a || b) ≡ false
both-false a b h k = rw (h, k) refl

or-false-left : (a b : Bool) → (a || b) ≡ false → a ≡ false
or-false-left true b h = h
or-false-left false b h = refl

or-false-right : (a b : Bool) → (a || b) ≡ false → b ≡ false
or-false-right true b h = absurd (cc)
or-false-right false b h = h

pub distinct-join : (xs ys : List ℕ) → AreDistinct xs → AreDistinct ys → ((n : ℕ) → among xs n ≡ true → among ys n ≡ false) → AreDistinct (xs ++ ys)
distinct-join [] ys h k f = k
distinct-join (x ∷ xs) ys h k f = (among-join xs ys x ∙ both-false (among xs x) (among ys x) h.0 (f x (or-left (nat_eq x x) (among xs x) (grind (arith, nat_tests)))), distinct-join xs ys h.1 k (λ n e. f n (or-right (nat_eq n x) (among xs n) e)))

pub distinct-left : (xs ys : List ℕ) → AreDistinct (xs ++ ys) → AreDistinct xs
distinct-left [] ys h = tt
distinct-left (x ∷ xs) ys h = (or-false-left (among xs x) (among ys x) (sym (among-join xs ys x) ∙ h.0), distinct-left xs ys h.1)

pub distinct-right : (xs ys : List ℕ) → AreDistinct (xs ++ ys) → AreDistinct ys
distinct-right [] ys h = h
distinct-right (x ∷ xs) ys h = distinct-right xs ys h.1

pub distinct-apart : (xs ys : List ℕ) (n : ℕ) → AreDistinct (xs ++ ys) → among xs n ≡ true → among ys n ≡ false
distinct-apart [] ys n h e = absurd (cc)
distinct-apart (x ∷ xs) ys n h e = elim (or-cases (nat_eq n x) (among xs n) e) [ inl l ↦ subst (λ m. among ys m ≡ false) (sym (nat_eq-then n x l)) (or-false-right (among xs x) (among ys x) (sym (among-join xs ys x) ∙ h.0)) | inr l ↦ distinct-apart xs ys n h.1 l ]

pub in-left : (xs ys : List ℕ) (n : ℕ) → among xs n ≡ true → among (xs ++ ys) n ≡ true
in-left xs ys n h = among-join xs ys n ∙ or-left (among xs n) (among ys n) h

pub in-right : (xs ys : List ℕ) (n : ℕ) → among ys n ≡ true → among (xs ++ ys) n ≡ true
in-right xs ys n h = among-join xs ys n ∙ or-right (among xs n) (among ys n) h

-- old ones below a number, new ones from it on
module _ (a b o w : List ℕ) (base top : ℕ) (old : AreDistinct (a ++ b)) (under : (n : ℕ) → among (a ++ b) n ≡ true → n < base) (fresh : AreDistinct (o ++ w)) (over : (n : ℕ) → among (o ++ w) n ≡ true → base ≤ n) where
  clash : (n : ℕ) → n < base → base ≤ n → ⊥
  clash n h k = omega arith

  pub all-distinct : AreDistinct ((a ++ o) ++ (b ++ w))
  all-distinct =
      distinct-join (a ++ o) (b ++ w)
      (distinct-join a o (distinct-left a b old) (distinct-left o w fresh) (λ n e. not-true (among o n) (λ k. clash n (under n (in-left a b n e)) (over n (in-left o w n k)))))
      (distinct-join b w (distinct-right a b old) (distinct-right o w fresh) (λ n e. not-true (among w n) (λ k. clash n (under n (in-right a b n e)) (over n (in-right o w n k)))))
      (λ n e. elim (join-cases a o n e) [
        | inl l ↦ among-join b w n ∙ both-false (among b n) (among w n) (distinct-apart a b n old l) (not-true (among w n) (λ k. clash n (under n (in-left a b n l)) (over n (in-right o w n k))))
        | inr l ↦ among-join b w n ∙ both-false (among b n) (among w n) (not-true (among b n) (λ k. clash n (under n (in-right a b n k)) (over n (in-left o w n l)))) (distinct-apart o w n fresh l)
      ])
