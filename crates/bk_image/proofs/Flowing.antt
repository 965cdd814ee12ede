-- A depth that comes to a place keeps what is known true, and loses nothing.
use Rattle.std.proofs.Common.{◌≡◌, ◌≢◌, ℕ, ◌+◌, ◌*◌, ◌<◌, ◌≤◌, ◌⊎◌, Bool, true, false, cond, List, [], ◌∷◌, ◌++◌, length, get_or, Option, Some, None, refl, sym, ap, subst, ◌∙◌, arith, inl, inr, ℤ}
use Rattle.std.specs.Prelude.{Contains, slice_set, unsigned_abs}
use Rattle.std.specs.Ordering.{int_eq}
use Rattle.std.proofs.lemmas.Bool.{cases_eq}
use Rattle.std.proofs.lemmas.Bool.Decides.{Decides-int_eq}
use Rattle.std.proofs.lemmas.List.{length-set, get_or-set_same, get_or-set_other, length-append}
use Rattle.std.proofs.lemmas.List.Elements.{All-nil, All-cons, All-append, Contains-append_left, Contains-push}
use Rattle.std.proofs.lemmas.List.Sums.{sum_by-set, sum_by-le}
use Rattle.bk_code.specs.declared.image.Image.{Image}
use Rattle.bk_code.specs.declared.instruction.Inst.{Inst}
use Rattle.bk_image.specs.declared.depths.Depth.{Depth}
use Rattle.bk_image.specs.declared.depths.Depth.TheVariants.{Unknown, One, Many}
use Rattle.bk_image.specs.Stack.{depth_after}
use Rattle.bk_image.specs.Progress.{Progress, IsProgressBut, IsKnown, IsGrown, Covers, after, raised, rank, rank_sum, left, depth_at, kept, flowed}

-- ---- what takes what into account

pub covers_itself : (d : Depth) → Covers d d
covers_itself Unknown = tt
covers_itself (One d) = refl
covers_itself Many = tt

pub covers_through : (a b c : Depth) → Covers a b → Covers b c → Covers a c
covers_through Many b c p q = tt
covers_through Unknown b Unknown p q = tt
covers_through (One d) b Unknown p q = tt
covers_through Unknown Unknown (One e) p q = q
covers_through Unknown (One d) (One e) p q = p
covers_through Unknown Many (One e) p q = p
covers_through (One d) Unknown (One e) p q = absurd q
covers_through (One d) (One f) (One e) p q = p ∙ q
covers_through (One d) Many (One e) p q = absurd p
covers_through Unknown Unknown Many p q = q
covers_through Unknown (One d) Many p q = q
covers_through Unknown Many Many p q = p
covers_through (One d) Unknown Many p q = q
covers_through (One d) (One f) Many p q = q
covers_through (One d) Many Many p q = p

-- what is known behind an instruction takes into account what comes through it
pub covers_after : (i : Inst) (have : Depth) (d : ℤ) → Covers have (One d) → Covers (after i have) (One (depth_after i d))
covers_after i Unknown d h = h
covers_after i (One e) d h = ap (depth_after i) h
covers_after i Many d h = tt

-- ---- raising

by_test : (t : Bool) (P : Bool → Type 0) → (t ≡ true → P true) → (t ≡ false → P false) → P t
by_test true P on_true on_false = on_true refl
by_test false P on_true on_false = on_false refl

int_same : (d e : ℤ) → int_eq d e ≡ true → d ≡ e
int_same d e h = (Decides-int_eq d e).0 h

int_other : (d e : ℤ) → int_eq d e ≡ false → d ≢ e
int_other d e h same = let t = (Decides-int_eq d e).1 same in cc

-- what raising gives
record Raises (have new r : Depth) : Type 0 where
  over : Covers r have
  takes : Covers r new
  higher : rank have + 1 ≤ rank r

abbrev RaisesTo : Depth → Depth → Option Depth → Type 0
RaisesTo have new None = Covers have new
RaisesTo have new (Some r) = Raises have new r

raised_is : (have new : Depth) → RaisesTo have new (raised have new)
raised_is Many new = tt
raised_is Unknown Unknown = tt
raised_is Unknown (One d) = record { over = tt; takes = refl; higher = omega arith }
raised_is Unknown Many = record { over = tt; takes = tt; higher = omega arith }
raised_is (One d) Unknown = tt
raised_is (One d) (One e) =
    by_test (int_eq d e) (λ t. RaisesTo (One d) (One e) (cond t None (Some Many))) (λ h. int_same d e h) (λ h. record { over = tt; takes = tt; higher = omega arith })
raised_is (One d) Many = record { over = tt; takes = tt; higher = omega arith }

abbrev KnownAs : Image → ℕ → ℕ → Option Depth → Type 0
KnownAs image limit to None = Unit {0}
KnownAs image limit to (Some r) = IsKnown image limit to r

raised_known : (image : Image) (limit to : ℕ) (have new : Depth) → IsKnown image limit to have → IsKnown image limit to new → KnownAs image limit to (raised have new)
raised_known image limit to Many new h k = tt
raised_known image limit to Unknown Unknown h k = tt
raised_known image limit to Unknown (One d) h k = k
raised_known image limit to Unknown Many h k = k
raised_known image limit to (One d) Unknown h k = tt
raised_known image limit to (One d) (One e) h k =
    by_test (int_eq d e) (λ t. KnownAs image limit to (cond t None (Some Many))) (λ _. tt) (λ f. (d, e, h.0, k.0, h.1, k.1, int_other d e f))
raised_known image limit to (One d) Many h k = k

-- a number that came is one that came to an unknown place
abbrev NumberFrom : Depth → Depth → Option Depth → Type 0
NumberFrom have new None = Unit {0}
NumberFrom have new (Some Unknown) = Unit {0}
NumberFrom have new (Some (One d)) = new ≡ One d
NumberFrom have new (Some Many) = Unit {0}

raised_number : (have new : Depth) → NumberFrom have new (raised have new)
raised_number Many new = tt
raised_number Unknown Unknown = tt
raised_number Unknown (One d) = refl
raised_number Unknown Many = tt
raised_number (One d) Unknown = tt
raised_number (One d) (One e) = by_test (int_eq d e) (λ t. NumberFrom (One d) (One e) (cond t None (Some Many))) (λ _. tt) (λ _. tt)
raised_number (One d) Many = tt

-- ---- a place is set

set_at : (known : List Depth) (to : ℕ) (r : Depth) → to < length known → depth_at (slice_set known to r) to ≡ r
set_at known to r lt = get_or-set_same known to r Unknown lt

set_other : (known : List Depth) (to at : ℕ) (r : Depth) → at ≢ to → depth_at (slice_set known to r) at ≡ depth_at known at
set_other known to at r ne = get_or-set_other known to at r Unknown ne

-- ---- a depth that comes to a place

abbrev NearBy : List Depth → Depth → Type 0
NearBy known new = (d : ℤ) → new ≡ One d → unsigned_abs d ≤ 2 * rank_sum known + 2

kept_sum : (known : List Depth) (to : ℕ) (new r : Depth) → to < length known → Raises (depth_at known to) new r → rank_sum known + 1 ≤ rank_sum (slice_set known to r)
kept_sum known to new r lt h = let hh = h.higher in omega (arith, sum_by-set rank known to r Unknown lt)

kept_grown : (known : List Depth) (to : ℕ) (r : Depth) → to < length known → Covers r (depth_at known to) → IsGrown known (slice_set known to r)
kept_grown known to r lt over at =
    elim (cases_eq at to) [
      | inl same ↦ subst (λ k. Covers (depth_at (slice_set known to r) k) (depth_at known k)) (sym same) (subst (λ d. Covers d (depth_at known to)) (sym (set_at known to r lt)) over)
      | inr ne ↦ subst (λ d. Covers d (depth_at known at)) (sym (set_other known to at r ne)) (covers_itself (depth_at known at))
    ]

-- flows from other places stay followed
kept_closed : (image : Image) (p : Progress) (to : ℕ) (r : Depth) (at next : ℕ) (i : Inst) (Busy : ℕ → Type 0) → to < length p.known → Covers r (depth_at p.known to) → at ≢ to
    → Covers (depth_at p.known next) (after i (depth_at p.known at)) ⊎ Contains p.work at ⊎ Busy at
    → Covers (depth_at (slice_set p.known to r) next) (after i (depth_at (slice_set p.known to r) at)) ⊎ Contains (p.work ++ to ∷ []) at ⊎ Busy at
kept_closed image p to r at next i Busy lt over ne (inl c) =
    let new = covers_through (depth_at (slice_set p.known to r) next) (depth_at p.known next) (after i (depth_at p.known at)) (kept_grown p.known to r lt over next) c in
    inl (subst (λ d. Covers (depth_at (slice_set p.known to r) next) (after i d)) (sym (set_other p.known to at r ne)) new)
kept_closed image p to r at next i Busy lt over ne (inr (inl waits)) = inr (inl (Contains-append_left p.work (to ∷ []) at waits))
kept_closed image p to r at next i Busy lt over ne (inr (inr busy)) = inr (inr busy)

kept_near : (known : List Depth) (to : ℕ) (new r : Depth) (d : ℤ) → Raises (depth_at known to) new r → NumberFrom (depth_at known to) new (Some r) → NearBy known new
    → rank_sum known + 1 ≤ rank_sum (slice_set known to r) → r ≡ One d → unsigned_abs d ≤ 2 * rank_sum (slice_set known to r)
kept_near known to new Unknown d raises from near more e = absurd cc
kept_near known to new (One f) d raises from near more e = omega (arith, near d (from ∙ e), more)
kept_near known to new Many d raises from near more e = absurd cc

kept_progress : (image : Image) (limit : ℕ) (p : Progress) (Busy : ℕ → Type 0) (to : ℕ) (new r : Depth) → IsProgressBut image limit p Busy → to < length image.code
    → Raises (depth_at p.known to) new r → IsKnown image limit to r → NumberFrom (depth_at p.known to) new (Some r) → NearBy p.known new → IsProgressBut image limit (kept p to (Some r)) Busy
kept_progress image limit p Busy to new r h stands raises known from near =
    let lt : to < length p.known = let l = h.long in omega arith in
    let grown = kept_grown p.known to r lt raises.over in
    let more = kept_sum p.known to new r lt raises in
    record {
      long = length-set p.known to r ∙ h.long;
      so = λ at here. elim (cases_eq at to) [
        | inl same ↦ subst (λ k. IsKnown image limit k (depth_at (slice_set p.known to r) k)) (sym same) (subst (IsKnown image limit to) (sym (set_at p.known to r lt)) known)
        | inr ne ↦ subst (IsKnown image limit at) (sym (set_other p.known to at r ne)) (h.so at here)
      ];
      closed = λ at next i get flows. elim (cases_eq at to) [
        | inl same ↦ inr (inl (subst (Contains (p.work ++ to ∷ [])) (sym same) (Contains-push p.work to)))
        | inr ne ↦ kept_closed image p to r at next i Busy lt raises.over ne (h.closed at next i get flows)
      ];
      near = λ at d e. elim (cases_eq at to) [
        | inl same ↦ kept_near p.known to new r d raises from near more (sym (set_at p.known to r lt) ∙ subst (λ k. depth_at (slice_set p.known to r) k ≡ One d) same e)
        | inr ne ↦ omega (arith, h.near at d (sym (set_other p.known to at r ne) ∙ e), more)
      ];
      places = All-append (λ at. at < length image.code) p.work (to ∷ []) h.places (All-cons (λ at. at < length image.code) to [] stands (All-nil (λ at. at < length image.code)));
    }

pub flowed_progress : (image : Image) (limit : ℕ) (p : Progress) (Busy : ℕ → Type 0) (new : Depth) (to : ℕ) → IsProgressBut image limit p Busy → to < length image.code
    → IsKnown image limit to new → NearBy p.known new → IsProgressBut image limit (flowed p new to) Busy
flowed_progress image limit p Busy new to h stands known near =
    by_raise (raised (depth_at p.known to) new) (raised_is (depth_at p.known to) new) (raised_known image limit to (depth_at p.known to) new (h.so to stands) known) (raised_number (depth_at p.known to) new)
  where
    by_raise : (o : Option Depth) → RaisesTo (depth_at p.known to) new o → KnownAs image limit to o → NumberFrom (depth_at p.known to) new o → IsProgressBut image limit (kept p to o) Busy
    by_raise None is known' from = h
    by_raise (Some r) is known' from = kept_progress image limit p Busy to new r h stands is known' from near

-- ---- what a depth that comes changes

pub flowed_grown : (p : Progress) (new : Depth) (to : ℕ) → to < length p.known → IsGrown p.known (flowed p new to).known
flowed_grown p new to lt = by_raise (raised (depth_at p.known to) new) (raised_is (depth_at p.known to) new)
  where
    by_raise : (o : Option Depth) → RaisesTo (depth_at p.known to) new o → IsGrown p.known (kept p to o).known
    by_raise None is at = covers_itself (depth_at p.known at)
    by_raise (Some r) is at = kept_grown p.known to r lt is.over at

pub flowed_covers : (p : Progress) (new : Depth) (to : ℕ) → to < length p.known → Covers (depth_at (flowed p new to).known to) new
flowed_covers p new to lt = by_raise (raised (depth_at p.known to) new) (raised_is (depth_at p.known to) new)
  where
    by_raise : (o : Option Depth) → RaisesTo (depth_at p.known to) new o → Covers (depth_at (kept p to o).known to) new
    by_raise None is = is
    by_raise (Some r) is = subst (λ d. Covers d new) (sym (set_at p.known to r lt)) is.takes

pub flowed_long : (p : Progress) (new : Depth) (to : ℕ) → length (flowed p new to).known ≡ length p.known
flowed_long p new to = by_raise (raised (depth_at p.known to) new)
  where
    by_raise : (o : Option Depth) → length (kept p to o).known ≡ length p.known
    by_raise None = refl
    by_raise (Some r) = length-set p.known to r

-- a place is as before, or waits
pub flowed_waits : (p : Progress) (new : Depth) (to at : ℕ) → (depth_at (flowed p new to).known at ≡ depth_at p.known at) ⊎ Contains (flowed p new to).work at
flowed_waits p new to at = by_raise (raised (depth_at p.known to) new)
  where
    by_raise : (o : Option Depth) → (depth_at (kept p to o).known at ≡ depth_at p.known at) ⊎ Contains (kept p to o).work at
    by_raise None = inl refl
    by_raise (Some r) =
        elim (cases_eq at to) [
          | inl same ↦ inr (subst (Contains (p.work ++ to ∷ [])) (sym same) (Contains-push p.work to))
          | inr ne ↦ inl (set_other p.known to at r ne)
        ]

-- what waits goes on waiting
pub flowed_still : (p : Progress) (new : Depth) (to at : ℕ) → Contains p.work at → Contains (flowed p new to).work at
flowed_still p new to at waits = by_raise (raised (depth_at p.known to) new)
  where
    by_raise : (o : Option Depth) → Contains (kept p to o).work at
    by_raise None = waits
    by_raise (Some r) = Contains-append_left p.work (to ∷ []) at waits

rank_few : (d : Depth) → rank d ≤ 2
rank_few Unknown = omega arith
rank_few (One d) = omega arith
rank_few Many = omega arith

pub rank_sum_few : (known : List Depth) → rank_sum known ≤ 2 * length known
rank_sum_few known = omega (arith, sum_by-le rank 2 known (λ k d lt. rank_few (get_or known k d)))

pub flowed_left : (p : Progress) (new : Depth) (to : ℕ) → to < length p.known → left (flowed p new to) ≤ left p
flowed_left p new to lt = by_raise (raised (depth_at p.known to) new) (raised_is (depth_at p.known to) new)
  where
    by_raise : (o : Option Depth) → RaisesTo (depth_at p.known to) new o → left (kept p to o) ≤ left p
    by_raise None is = omega arith
    by_raise (Some r) is = omega (arith, length-append p.work (to ∷ []), length-set p.known to r, kept_sum p.known to new r lt is, rank_sum_few (slice_set p.known to r))

pub flowed_sum : (p : Progress) (new : Depth) (to : ℕ) → to < length p.known → rank_sum p.known ≤ rank_sum (flowed p new to).known
flowed_sum p new to lt = by_raise (raised (depth_at p.known to) new) (raised_is (depth_at p.known to) new)
  where
    by_raise : (o : Option Depth) → RaisesTo (depth_at p.known to) new o → rank_sum p.known ≤ rank_sum (kept p to o).known
    by_raise None is = omega arith
    by_raise (Some r) is = omega (arith, kept_sum p.known to new r lt is)
