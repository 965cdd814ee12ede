-- What is known where a chain of options answers something.
use Rattle.std.proofs.Common.{◌≡◌, Result, Ok, Err, IsErr, IsErrAnd, MatchResult, refl, sym, subst, Bool, true, false, cond}
use Rattle.std.specs.Prelude.{Option, Some, None}
use Rattle.std.specs.Option.{option_map, option_and_then, ok_or}

pub some-same : {A : Type 0} (x y : A) → Some x ≡ Some y → x ≡ y
some-same x y h = cc

pub chained : {A B : Type 0} (f : A → Option B) (o : Option A) (y : B) → option_and_then f o ≡ Some y → (x : A) × (o ≡ Some x) × (f x ≡ Some y)
chained f None y h = absurd (cc)
chained f (Some x) y h = (x, refl, h)

pub mapped : {A B : Type 0} (f : A → B) (o : Option A) (y : B) → option_map f o ≡ Some y → (x : A) × (o ≡ Some x) × (f x ≡ y)
mapped f None y h = absurd (cc)
mapped f (Some x) y h = (x, refl, some-same (f x) y h)

-- what is answered only under a test
pub cond-then : {A : Type 0} (b : Bool) (x y : A) → cond b (Some x) None ≡ Some y → (b ≡ true) × (x ≡ y)
cond-then true x y h = (refl, some-same x y h)
cond-then false x y h = absurd (cc)

-- a refusal that is handed on
pub refused : {V E : Type 0} (r : Result V E) (e : E) (P : V → Type 0) (Q : E → Type 0) → IsErr r → IsErrAnd r (λ x. x ≡ e) → Q e → MatchResult r P Q
refused (Ok v) e P Q fails h q = absurd (cc)
refused (Err x) e P Q fails h q = subst Q (sym h) q

-- the refusal where there was nothing
pub refusal : {V E : Type 0} (o : Option V) (e f : E) → Err e ≡ ok_or o f → e ≡ f
refusal None e f h = cc
refusal (Some v) e f h = absurd (cc)
