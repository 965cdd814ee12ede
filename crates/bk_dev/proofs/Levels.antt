-- The levels of a development one by one, and the bodies of an operation at two of them.
use Rattle.std.proofs.Common.{◌≡◌, ◌<◌, ℕ, zero, suc, ◌+◌, List, [], ◌∷◌, length, refl, ap, subst, false, arith}
use Rattle.std.specs.Prelude.{slice_index_or}
use Rattle.bk_dev.specs.Development.{Head, Body, Level, Development, blank_body, blank_level, is_implementation, level_at, last}
use Rattle.bk_dev.specs.Facts.{EachBody, EachLevel, IsBodyOf, IsLevelOf, IsLawful, IsHeadOf, OnlyLastIsImplementation}
use Rattle.bk_form.specs.Each.{Each}

pub each_level : (dev : Development) (k : ℕ) (ls : List Level) (i : ℕ) → i < length ls → EachLevel dev k ls → IsLevelOf dev (k + i) (slice_index_or ls i blank_level)
each_level dev k [] i h e = absurd (omega arith)
each_level dev k (l ∷ ls) zero h e = let same : k ≡ k + 0 = omega arith in subst (λ m. IsLevelOf dev m l) same e.0
each_level dev k (l ∷ ls) (suc i) h e =
    let same : suc k + i ≡ k + suc i = omega arith in
    subst (λ m. IsLevelOf dev m (slice_index_or ls i blank_level)) same (each_level dev (suc k) ls i (omega arith) e.1)

pub level_fact : (dev : Development) → IsLawful dev → (k : ℕ) → k < length dev.levels → IsLevelOf dev k (level_at dev k)
level_fact dev f k h =
    let same : 0 + k ≡ k = omega arith in
    subst (λ m. IsLevelOf dev m (level_at dev k)) same (each_level dev 0 dev.levels k h f.levels)

pub last_level : (dev : Development) → IsLawful dev → IsLevelOf dev (last dev) (level_at dev (last dev))
last_level dev f =
    let some : 0 < length dev.levels = f.some_level in
    level_fact dev f (last dev) (omega arith)

-- of a machine and one level below it
pub two-levels : (dev : Development) → length dev.levels ≡ 2 → is_implementation (level_at dev 0) ≡ false → OnlyLastIsImplementation dev
two-levels dev many first zero h = first
two-levels dev many first (suc k) h = absurd (omega (arith, many, h))

-- ---- bodies
pub paired : (dev : Development) (k : ℕ) (hs : List Head) (ms bs : List Body) → EachBody dev k hs ms bs → length hs ≡ length bs
paired dev k [] [] [] e = refl
paired dev k [] [] (b ∷ bs) e = absurd e
paired dev k [] (m ∷ ms) bs e = absurd e
paired dev k (h ∷ hs) [] bs e = absurd e
paired dev k (h ∷ hs) (m ∷ ms) [] e = absurd e
paired dev k (h ∷ hs) (m ∷ ms) (b ∷ bs) e = ap suc (paired dev k hs ms bs e.1)

pub last_paired : (dev : Development) → IsLawful dev → length dev.heads ≡ length (level_at dev (last dev)).bodies
last_paired dev f = paired dev (last dev) dev.heads (level_at dev 0).bodies (level_at dev (last dev)).bodies (last_level dev f).bodies

pub each-at : {A : Type 0} (P : A → Type 0) (xs : List A) (o : ℕ) (d : A) → o < length xs → Each P xs → P (slice_index_or xs o d)
each-at {A} P [] o d h e = absurd (omega arith)
each-at {A} P (x ∷ xs) zero d h e = e.0
each-at {A} P (x ∷ xs) (suc o) d h e = each-at P xs o d (omega arith) e.1

pub body-at : (dev : Development) (k : ℕ) (hs : List Head) (ms bs : List Body) (d : Head) (o : ℕ) → o < length hs → EachBody dev k hs ms bs → IsBodyOf dev k (slice_index_or hs o d) (slice_index_or ms o blank_body) (slice_index_or bs o blank_body)
body-at dev k [] ms bs d o h e = absurd (omega arith)
body-at dev k (x ∷ hs) [] bs d o h e = absurd e
body-at dev k (x ∷ hs) (m ∷ ms) [] d o h e = absurd e
body-at dev k (x ∷ hs) (m ∷ ms) (b ∷ bs) d zero h e = e.0
body-at dev k (x ∷ hs) (m ∷ ms) (b ∷ bs) d (suc o) h e = body-at dev k hs ms bs d o (omega arith) e.1

pub head-at : (dev : Development) (hs : List Head) → Each (IsHeadOf dev) hs → (o : ℕ) (d : Head) → IsHeadOf dev d → IsHeadOf dev (slice_index_or hs o d)
head-at dev [] e o d h = h
head-at dev (x ∷ hs) e zero d h = e.0
head-at dev (x ∷ hs) e (suc o) d h = head-at dev hs e.1 o d h
