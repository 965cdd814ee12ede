-- The rows of unions, intersections, differences and products.
use Rattle.std.proofs.Common.{◌≡◌, refl, sym, ◌∙◌, ap, subst, Bool, true, false, ◌&&◌, ◌||◌, not}
use Rattle.bk_val.specs.Value.{pair, set, none}
use Rattle.bk_val.specs.ValueType.{ValueType, set_type, pair_type}
use Rattle.bk_val.specs.CmpLaws.{same_value}
use Rattle.bk_form.specs.Formula.{binary, empty_set}
use Rattle.bk_form.specs.Environment.{bound_types}
use Rattle.bk_form.specs.Role.{role}
use Rattle.bk_form.specs.Operators.{is_element}
use Rattle.bk_form.specs.Meaning.{value, within}
use Rattle.bk_form.specs.declared.operator.BinOp.TheVariants.{Union, Inter, Minus, Times}
use Rattle.bk_form.specs.Table.{set_size}
use Rattle.bk_form.proofs.Typed.{Of}
use Rattle.bk_form.proofs.Givers.{product-gives}
use Rattle.bk_form.proofs.SetMembers.{in-union, two-sets, in-inter, in-minus, in-power}
use Rattle.bk_form.proofs.Forms.{pair-of}
use Rattle.bk_laws.specs.Rows.{Instance, built}
use Rattle.bk_laws.specs.Laws.{IsTrueLaw, IsTrueRow}
use Rattle.bk_laws.specs.Patterns.{empty_type}
use Rattle.bk_laws.proofs.ByForm.{by_members}
use Rattle.bk_laws.proofs.Truths.{or-none, or-swap, or-assoc, and-none, and-self, and-swap, and-assoc, and-or, or-and}
use Rattle.bk_laws_set.specs.Sets.{s19, s20, s21, s22, s23, s24, s25, s26, s27, s28, s29, s30, s31, s32, s33, s34, s35, s40}

and-not : (a : Bool) → (a && not a) ≡ false
and-not true = refl
and-not false = refl

or-self : (a : Bool) → (a || a) ≡ a
or-self true = refl
or-self false = refl

and-all : (a : Bool) → (a && true) ≡ a
and-all true = refl
and-all false = refl

minus-or : (a b c : Bool) → (a && not (b || c)) ≡ ((a && not b) && not c)
minus-or true true c = refl
minus-or true false c = refl
minus-or false b c = refl

or-minus : (a b c : Bool) → ((a || b) && c) ≡ ((a && c) || (b && c))
or-minus true true true = refl
or-minus true true false = refl
or-minus true false true = refl
or-minus true false false = refl
or-minus false b c = refl

without : (a b : Bool) → (a && b) ≡ false → (a && not b) ≡ a
without true true h = absurd (cc)
without true false h = refl
without false b h = refl

under-or : (a b : Bool) → (a ≡ true → b ≡ true) → (a || b) ≡ b
under-or true b h = sym (h refl)
under-or false b h = refl

under-and : (a b : Bool) → (a ≡ true → b ≡ true) → (a && b) ≡ a
under-and true b h = h refl
under-and false b h = refl

-- a law read from right to left
abbrev turned : Instance → Instance
turned i = record { sides = i.sides; left = i.right; right = i.left }

pub by_turn : (i : Instance) → IsTrueLaw (turned i) → IsTrueLaw i
by_turn i h find e setting one sides = sym (h find e setting (record { types = λ k. one.types (one.one_role ∙ k); one_role = sym one.one_role }) sides)

pub true-s19 : IsTrueRow s19
true-s19 picks = by_members (built s19 picks) refl (λ find e c t l r s v o. in-union find e (picks 0) (empty_set (empty_type (picks 1))) t l v ∙ or-none (within find e v (picks 0)))

pub true-s20 : IsTrueRow s20
true-s20 picks = by_members (built s20 picks) refl (λ find e c t l r s v o. in-union find e (picks 0) (picks 0) t l v ∙ or-self (within find e v (picks 0)))

pub true-s21 : IsTrueRow s21
true-s21 picks = by_members (built s21 picks) refl (λ find e c t l r s v o.
    let a = picks 0 in let b = picks 1 in
    in-union find e a b t l v ∙ or-swap (within find e v a) (within find e v b) ∙ sym (in-union find e b a t r v))

pub true-s22 : IsTrueRow s22
true-s22 picks = by_members (built s22 picks) refl (λ find e c t l r s v o.
    let a = picks 0 in let b = picks 1 in let d = picks 2 in
    let left = two-sets find e (binary Union a b) d t l in
    let right = two-sets find e a (binary Union b d) t r in
    in-union find e (binary Union a b) d t l v
    ∙ ap (λ z. z || within find e v d) (in-union find e a b t left.0 v)
    ∙ or-assoc (within find e v a) (within find e v b) (within find e v d)
    ∙ sym (in-union find e a (binary Union b d) t r v ∙ ap (λ z. within find e v a || z) (in-union find e b d t right.1 v)))

pub true-s23 : IsTrueRow s23
true-s23 picks = by_members (built s23 picks) refl (λ find e c t l r s v o. in-inter find e (picks 0) (empty_set (empty_type (picks 1))) t l v ∙ and-none (within find e v (picks 0)))

pub true-s24 : IsTrueRow s24
true-s24 picks = by_members (built s24 picks) refl (λ find e c t l r s v o. in-inter find e (picks 0) (picks 0) t l v ∙ and-self (within find e v (picks 0)))

pub true-s25 : IsTrueRow s25
true-s25 picks = by_members (built s25 picks) refl (λ find e c t l r s v o.
    let a = picks 0 in let b = picks 1 in
    in-inter find e a b t l v ∙ and-swap (within find e v a) (within find e v b) ∙ sym (in-inter find e b a t r v))

pub true-s26 : IsTrueRow s26
true-s26 picks = by_members (built s26 picks) refl (λ find e c t l r s v o.
    let a = picks 0 in let b = picks 1 in let d = picks 2 in
    let left = two-sets find e (binary Inter a b) d t l in
    let right = two-sets find e a (binary Inter b d) t r in
    in-inter find e (binary Inter a b) d t l v
    ∙ ap (λ z. z && within find e v d) (in-inter find e a b t left.0 v)
    ∙ and-assoc (within find e v a) (within find e v b) (within find e v d)
    ∙ sym (in-inter find e a (binary Inter b d) t r v ∙ ap (λ z. within find e v a && z) (in-inter find e b d t right.1 v)))

pub true-s27 : IsTrueRow s27
true-s27 picks = by_members (built s27 picks) refl (λ find e c t l r s v o.
    let a = picks 0 in let b = picks 1 in let d = picks 2 in
    let inner = two-sets find e a (binary Union b d) t l in
    let outer = two-sets find e (binary Inter a b) (binary Inter a d) t r in
    in-inter find e a (binary Union b d) t l v
    ∙ ap (λ z. within find e v a && z) (in-union find e b d t inner.1 v)
    ∙ and-or (within find e v a) (within find e v b) (within find e v d)
    ∙ sym (in-union find e (binary Inter a b) (binary Inter a d) t r v ∙ (λ i. in-inter find e a b t outer.0 v i || in-inter find e a d t outer.1 v i)))

pub true-s28 : IsTrueRow s28
true-s28 picks = by_members (built s28 picks) refl (λ find e c t l r s v o.
    let a = picks 0 in let b = picks 1 in let d = picks 2 in
    let inner = two-sets find e a (binary Inter b d) t l in
    let outer = two-sets find e (binary Union a b) (binary Union a d) t r in
    in-union find e a (binary Inter b d) t l v
    ∙ ap (λ z. within find e v a || z) (in-inter find e b d t inner.1 v)
    ∙ or-and (within find e v a) (within find e v b) (within find e v d)
    ∙ sym (in-inter find e (binary Union a b) (binary Union a d) t r v ∙ (λ i. in-union find e a b t outer.0 v i && in-union find e a d t outer.1 v i)))

pub true-s29 : IsTrueRow s29
true-s29 picks = by_members (built s29 picks) refl (λ find e c t l r s v o. in-minus find e (picks 0) (empty_set (empty_type (picks 1))) t l v ∙ and-all (within find e v (picks 0)))

pub true-s30 : IsTrueRow s30
true-s30 picks = by_members (built s30 picks) refl (λ find e c t l r s v o. in-minus find e (picks 0) (picks 0) t l v ∙ and-not (within find e v (picks 0)))

pub true-s31 : IsTrueRow s31
true-s31 picks = by_members (built s31 picks) refl (λ find e c t l r s v o.
    let a = picks 0 in let b = picks 1 in let d = picks 2 in
    let left = two-sets find e a (binary Union b d) t l in
    let right = two-sets find e (binary Minus a b) d t r in
    in-minus find e a (binary Union b d) t l v
    ∙ ap (λ z. within find e v a && not z) (in-union find e b d t left.1 v)
    ∙ minus-or (within find e v a) (within find e v b) (within find e v d)
    ∙ sym (in-minus find e (binary Minus a b) d t r v ∙ ap (λ z. z && not (within find e v d)) (in-minus find e a b t right.0 v)))

pub true-s32 : IsTrueRow s32
true-s32 picks = by_members (built s32 picks) refl (λ find e c t l r s v o.
    let a = picks 0 in let b = picks 1 in let d = picks 2 in
    let left = two-sets find e (binary Union a b) d t l in
    let right = two-sets find e (binary Minus a d) (binary Minus b d) t r in
    in-minus find e (binary Union a b) d t l v
    ∙ ap (λ z. z && not (within find e v d)) (in-union find e a b t left.0 v)
    ∙ or-minus (within find e v a) (within find e v b) (not (within find e v d))
    ∙ sym (in-union find e (binary Minus a d) (binary Minus b d) t r v ∙ (λ i. in-minus find e a d t right.0 v i || in-minus find e b d t right.1 v i)))

pub true-s33 : IsTrueRow s33
true-s33 picks = by_members (built s33 picks) refl (λ find e c t l r s v o.
    let a = picks 0 in let b = picks 1 in
    let none-in = sym (in-inter find e a b t l v) ∙ ap (λ w. is_element v w) (same_value (value find e (binary Inter a b)) (set none) s.1) in
    in-minus find e a b t l v ∙ without (within find e v a) (within find e v b) none-in)

pub true-s34 : IsTrueRow s34
true-s34 picks = by_members (built s34 picks) refl (λ find e c t l r s v o.
    let a = picks 0 in let b = picks 1 in
    let types = two-sets find e a b t l in
    in-union find e a b t l v ∙ under-or (within find e v a) (within find e v b) ((in-power find e c a b t types.0).0 s.1 v))

pub true-s35 : IsTrueRow s35
true-s35 picks = by_members (built s35 picks) refl (λ find e c t l r s v o.
    let a = picks 0 in let b = picks 1 in
    let types = two-sets find e a b t l in
    in-inter find e a b t l v ∙ under-and (within find e v a) (within find e v b) ((in-power find e c a b t types.0).0 s.1 v))

pub true-s40 : IsTrueRow s40
true-s40 picks = by_turn (built s40 picks) (by_members (turned (built s40 picks)) refl (λ find e c t l r s v o.
    let a = picks 0 in let b = picks 1 in let d = picks 2 in
    let k = product-gives (role e.table (bound_types e) (binary Union a b)) (role e.table (bound_types e) d) (set_type t) r in
    let p = pair-of (set_size e.table) k.first k.second v (subst (λ x. Of (set_size e.table) x v) (set-same t (pair_type k.first k.second) (sym k.result)) o) in
    subst (λ z. within find e z (binary Union (binary Times a d) (binary Times b d)) ≡ within find e z (binary Times (binary Union a b) d)) (sym p.is_pair)
    (in-union find e (binary Times a d) (binary Times b d) t l (pair p.left p.right)
    ∙ sym (or-minus (within find e p.left a) (within find e p.left b) (within find e p.right d))
    ∙ ap (λ z. z && within find e p.right d) (sym (in-union find e a b k.first k.left p.left)))))
  where
    set-same : (t u : ValueType) → set_type t ≡ set_type u → t ≡ u
    set-same t u h = cc
