-- What is read is what was written, what was written is read again, and where a field can't be read the bytes end too early.
use Rattle.std.proofs.Common.{◌≡◌, ℕ, zero, suc, ◌+◌, ◌^◌, ◌<◌, ◌≤◌, ◌⊎◌, Bool, true, false, cond, ltb, List, [], ◌∷◌, ◌++◌, length, get_or, take, drop, Result, Ok, Err, refl, sym, ap, subst, ◌∙◌, append_assoc, arith, inl, inr, ℤ}
use Rattle.std.specs.Prelude.{All, FitsSigned}
use Rattle.std.specs.List.{flat_map}
use Rattle.std.specs.Int.{Width, w16, w32, w64, byte_len, from_be_bytes, to_be_bytes, cast_signed, cast_unsigned}
use mir.Val.{bits}
use Rattle.std.proofs.lemmas.Bool.{cases_lt, ltb-false, le-ltb}
use Rattle.std.proofs.lemmas.Int.{of_z-to_z, to_z-of_z}
use Rattle.std.proofs.Math.Facts.{sfits_to_z, Fits-of_z}
use Rattle.std.proofs.lemmas.List.{take_at, drop_at, take-append-drop, length-append, length-take, get_or-drop, get_or-take, get_or_past}
use Rattle.std.proofs.lemmas.List.Elements.{All-nil, All-cons, All-head, All-tail}
use Rattle.std.proofs.lemmas.Nat.{be_bytes_2, be_bytes_4, be_bytes_8, from_be_bytes-to_be_bytes_2, from_be_bytes-to_be_bytes_4, from_be_bytes-to_be_bytes_8}
use Rattle.bk_image.specs.declared.fault.LoadFault.{LoadFault}
use Rattle.bk_image.specs.declared.fault.LoadFault.TheVariants.{Short}
use Rattle.bk_image.specs.Spelling.{number, signed, text, counted, IsCountable}
use Rattle.bk_image.specs.Reading.{◌>>=◌, Read, number_at, signed_at, text_at, items_at, counted_at}

abbrev pub IsBytes : List ℕ → Type 0
IsBytes bytes = (i : ℕ) → get_or bytes i 0 < 256

IsBytes-drop : (n : ℕ) (bytes : List ℕ) → IsBytes bytes → IsBytes (drop n bytes)
IsBytes-drop n bytes h i = rw get_or-drop (h (n + i))

pub IsBytes-take : (n : ℕ) (bytes : List ℕ) → IsBytes bytes → IsBytes (take n bytes)
IsBytes-take n bytes h i =
    elim (cases_lt i n) [
      | inl lt ↦ rw (get_or-take n bytes i 0 lt) (h i)
      | inr le ↦ rw (get_or_past (take n bytes) i 0 (omega (arith, length-take n bytes))) (omega arith)
    ]

abbrev done : {A : Type 0} → A → Result A LoadFault
done x = Ok x

abbrev failed : {A : Type 0} → LoadFault → Result A LoadFault
failed e = Err e

pub ok_is : {A : Type 0} (x y : A) → done x ≡ done y → x ≡ y
ok_is x y e = cc

pub err_is : {A : Type 0} (x y : LoadFault) → failed {A = A} x ≡ failed y → x ≡ y
err_is x y e = cc

-- what a reader took from the front
pub record Takes (bytes text rest : List ℕ) : Type 0 where
  pub parts : bytes ≡ text ++ rest
  pub rest_fits : IsBytes rest

pub Takes-then : (a x b y c : List ℕ) → Takes a x b → Takes b y c → Takes a (x ++ y) c
Takes-then a x b y c p q = record { parts = p.parts ∙ ap (λ (t : List ℕ). x ++ t) q.parts ∙ sym (append_assoc x y c); rest_fits = q.rest_fits }

-- a reader against the spelling of what it reads
pub record Reads {A : Type 0} (len : ℕ) (item : List ℕ → Read A) (spell : A → List ℕ) (Fits : A → Type 0) : Type 0 where
  pub takes : (bytes : List ℕ) (x : A × List ℕ) → IsBytes bytes → item bytes ≡ Ok x → Takes bytes (spell x.0) x.1 × Fits x.0
  pub again : (x : A) (rest : List ℕ) → Fits x → item (spell x ++ rest) ≡ Ok (x, rest)

-- its only fault
abbrev pub EndsEarly : {A : Type 0} → ℕ → (List ℕ → Read A) → Type 0
EndsEarly {A} len item = (bytes : List ℕ) (e : LoadFault) → item bytes ≡ Err e → e ≡ Short len

-- the value of a step that did not fail
pub bind_ok : {A B : Type 0} (r : Result A LoadFault) (f : A → Result B LoadFault) (y : B) → (r >>= f) ≡ Ok y → (x : A) × (r ≡ Ok x) × (f x ≡ Ok y)
bind_ok (Ok x) f y e = (x, refl, e)
bind_ok (Err d) f y e = absurd cc

-- which step failed
pub bind_err : {A B : Type 0} (r : Result A LoadFault) (f : A → Result B LoadFault) (d : LoadFault) → (r >>= f) ≡ Err d → (r ≡ Err d) ⊎ ((x : A) × (r ≡ Ok x) × (f x ≡ Err d))
bind_err (Ok x) f d e = inr (x, refl, e)
bind_err (Err c) f d e = inl (ap failed (err_is c d e))

-- where the first step ends early, and the others do
pub bind_early : {A B : Type 0} (len : ℕ) (item : List ℕ → Read A) (f : A × List ℕ → Result B LoadFault) (bytes : List ℕ) (d : LoadFault) → EndsEarly len item → ((x : A × List ℕ) → f x ≡ Err d → d ≡ Short len) → (item bytes >>= f) ≡ Err d → d ≡ Short len
bind_early len item f bytes d first others e =
    elim (bind_err (item bytes) f d e) [
      | inl h ↦ first bytes d h
      | inr h ↦ others h.0 h.2
    ]

-- a test that did not fail
pub guard_ok : {A : Type 0} (b : Bool) (d : LoadFault) (x y : A) → cond b (Err d) (Ok x) ≡ Ok y → (b ≡ false) × (x ≡ y)
guard_ok true d x y e = absurd cc
guard_ok false d x y e = (refl, cc)

pub guard_err : {A : Type 0} (b : Bool) (d : LoadFault) (x : A) (c : LoadFault) → cond b (Err d) (Ok x) ≡ failed c → d ≡ c
guard_err true d x c e = cc
guard_err false d x c e = absurd cc

-- ---- numbers

pub record IsWide (w : Width) : Type 0 where
  pub len : (n : ℕ) → length (to_be_bytes w n) ≡ byte_len w
  pub back : (bytes : List ℕ) → length bytes ≡ byte_len w → IsBytes bytes → to_be_bytes w (from_be_bytes w bytes) ≡ bytes
  pub again : (n : ℕ) → n < 2 ^ bits w → from_be_bytes w (to_be_bytes w n) ≡ n
  pub below : (bytes : List ℕ) → IsBytes bytes → from_be_bytes w bytes < 2 ^ bits w

pub wide16 : IsWide w16
wide16 = record {
  len = λ n. refl;
  back = λ bytes len fits. be_bytes_2 bytes _ len fits refl;
  again = λ n lt. from_be_bytes-to_be_bytes_2 n lt;
  below = λ bytes fits. omega (arith, fits 0, fits 1);
}

pub wide32 : IsWide w32
wide32 = record {
  len = λ n. refl;
  back = λ bytes len fits. be_bytes_4 bytes _ len fits refl;
  again = λ n lt. from_be_bytes-to_be_bytes_4 n lt;
  below = λ bytes fits. omega (arith, fits 0, fits 1, fits 2, fits 3);
}

pub wide64 : IsWide w64
wide64 = record {
  len = λ n. refl;
  back = λ bytes len fits. be_bytes_8 bytes _ len fits refl;
  again = λ n lt. from_be_bytes-to_be_bytes_8 n lt;
  below = λ bytes fits. omega (arith, fits 0, fits 1, fits 2, fits 3, fits 4, fits 5, fits 6, fits 7);
}

abbrev pub Below : Width → ℕ → Type 0
Below w n = n < 2 ^ bits w

number_takes : (len : ℕ) (w : Width) → IsWide w → (bytes : List ℕ) (x : ℕ × List ℕ) → IsBytes bytes → number_at len w bytes ≡ Ok x → Takes bytes (number w x.0) x.1 × Below w x.0
unfolding number_at number
number_takes len w wide bytes x fits e =
    let g = guard_ok (ltb (length bytes) (byte_len w)) (Short len) (from_be_bytes w (take (byte_len w) bytes), drop (byte_len w) bytes) x e in
    let long : byte_len w ≤ length bytes = ltb-false _ _ g.0 in
    let n-is : from_be_bytes w (take (byte_len w) bytes) ≡ x.0 = ap (λ (p : ℕ × List ℕ). p.0) g.1 in
    let rest-is : drop (byte_len w) bytes ≡ x.1 = ap (λ (p : ℕ × List ℕ). p.1) g.1 in
    let front : to_be_bytes w x.0 ≡ take (byte_len w) bytes = rw (← n-is) (wide.back (take (byte_len w) bytes) (omega (arith, length-take (byte_len w) bytes)) (IsBytes-take (byte_len w) bytes fits)) in
    (record { parts = rw (front, ← rest-is) (sym (take-append-drop (byte_len w) bytes)); rest_fits = rw (← rest-is) (IsBytes-drop (byte_len w) bytes fits) }, rw (← n-is) (wide.below (take (byte_len w) bytes) (IsBytes-take (byte_len w) bytes fits)))

number_again : (len : ℕ) (w : Width) → IsWide w → (n : ℕ) (rest : List ℕ) → Below w n → number_at len w (number w n ++ rest) ≡ Ok (n, rest)
unfolding number_at number
number_again len w wide n rest lt =
    let size = wide.len n in
    let long : ltb (length (to_be_bytes w n ++ rest)) (byte_len w) ≡ false = le-ltb _ _ (omega (arith, length-append (to_be_bytes w n) rest)) in
    rw (long, take_at (to_be_bytes w n) rest (byte_len w) size, drop_at (to_be_bytes w n) rest (byte_len w) size, wide.again n lt) refl

pub number_reads : (len : ℕ) (w : Width) → IsWide w → Reads len (number_at len w) (number w) (Below w)
number_reads len w wide = record { takes = number_takes len w wide; again = number_again len w wide }

pub number_early : (len : ℕ) (w : Width) → EndsEarly len (number_at len w)
unfolding number_at
number_early len w bytes e h = sym (guard_err (ltb (length bytes) (byte_len w)) (Short len) (from_be_bytes w (take (byte_len w) bytes), drop (byte_len w) bytes) e h)

-- ---- numbers with a sign

signed_takes : (len : ℕ) (w : Width) → IsWide w → (bytes : List ℕ) (x : ℤ × List ℕ) → IsBytes bytes → signed_at len w bytes ≡ Ok x → Takes bytes (signed w x.0) x.1 × FitsSigned w x.0
unfolding signed_at signed number
signed_takes len w wide bytes x fits e =
    let b = bind_ok (number_at len w bytes) (λ n. Ok (cast_signed w n.0, n.1)) x e in
    let t = number_takes len w wide bytes b.0 fits b.1 in
    let back : cast_unsigned w (cast_signed w b.0.0) ≡ b.0.0 = of_z-to_z w b.0.0 t.1 in
    let all : Takes bytes (to_be_bytes w (cast_unsigned w (cast_signed w b.0.0))) b.0.1 = rw back t.0 in
    subst (λ (y : ℤ × List ℕ). Takes bytes (to_be_bytes w (cast_unsigned w y.0)) y.1 × FitsSigned w y.0) (ok_is (cast_signed w b.0.0, b.0.1) x b.2) (all, sfits_to_z (record { fits = t.1 }))

signed_again : (len : ℕ) (w : Width) → IsWide w → (n : ℤ) (rest : List ℕ) → FitsSigned w n → signed_at len w (signed w n ++ rest) ≡ Ok (n, rest)
unfolding signed_at signed
signed_again len w wide n rest fits =
    let below : Below w (cast_unsigned w n) = (Fits-of_z fits).fits in
    let read : number_at len w (to_be_bytes w (cast_unsigned w n) ++ rest) ≡ Ok (cast_unsigned w n, rest) = unfold number in number_again len w wide (cast_unsigned w n) rest below in
    rw (read, to_z-of_z w n fits) refl

pub signed_reads : (len : ℕ) (w : Width) → IsWide w → Reads len (signed_at len w) (signed w) (FitsSigned w)
signed_reads len w wide = record { takes = signed_takes len w wide; again = signed_again len w wide }

pub signed_early : (len : ℕ) (w : Width) → EndsEarly len (signed_at len w)
unfolding signed_at
signed_early len w bytes e h = bind_early len (number_at len w) (λ n. Ok (cast_signed w n.0, n.1)) bytes e (number_early len w) (λ x h. absurd cc) h

-- ---- names

text_takes : (len : ℕ) (bytes : List ℕ) (x : List ℕ × List ℕ) → IsBytes bytes → text_at len bytes ≡ Ok x → Takes bytes (text x.0) x.1 × IsCountable x.0
unfolding text_at text
text_takes len bytes x fits e =
    let b = bind_ok (number_at len w16 bytes) (λ n. cond (ltb (length n.1) n.0) (Err (Short len)) (Ok (take n.0 n.1, drop n.0 n.1))) x e in
    let n = b.0 in
    let t = number_takes len w16 wide16 bytes n fits b.1 in
    let g = guard_ok (ltb (length n.1) n.0) (Short len) (take n.0 n.1, drop n.0 n.1) x b.2 in
    let long : n.0 ≤ length n.1 = ltb-false _ _ g.0 in
    let size : length (take n.0 n.1) ≡ n.0 = omega (arith, length-take n.0 n.1) in
    let second : Takes n.1 (take n.0 n.1) (drop n.0 n.1) = record { parts = sym (take-append-drop n.0 n.1); rest_fits = IsBytes-drop n.0 n.1 t.0.rest_fits } in
    let both = Takes-then bytes (number w16 n.0) n.1 (take n.0 n.1) (drop n.0 n.1) t.0 second in
    let whole : Takes bytes (number w16 (length (take n.0 n.1)) ++ take n.0 n.1) (drop n.0 n.1) = subst (λ (k : ℕ). Takes bytes (number w16 k ++ take n.0 n.1) (drop n.0 n.1)) (sym size) both in
    subst (λ (p : List ℕ × List ℕ). Takes bytes (number w16 (length p.0) ++ p.0) p.1 × (length p.0 < 2 ^ 16)) g.1 (whole, omega (arith, t.1, size))

text_again : (len : ℕ) (bytes rest : List ℕ) → IsCountable bytes → text_at len (text bytes ++ rest) ≡ Ok (bytes, rest)
unfolding text_at text
text_again len bytes rest lt =
    let long : ltb (length (bytes ++ rest)) (length bytes) ≡ false = le-ltb _ _ (omega (arith, length-append bytes rest)) in
    let regrouped : (number w16 (length bytes) ++ bytes) ++ rest ≡ number w16 (length bytes) ++ (bytes ++ rest) = append_assoc (number w16 (length bytes)) bytes rest in
    rw (regrouped, number_again len w16 wide16 (length bytes) (bytes ++ rest) lt, long, take_at bytes rest (length bytes) refl, drop_at bytes rest (length bytes) refl) refl

pub text_reads : (len : ℕ) → Reads len (text_at len) text (λ bytes. IsCountable bytes)
text_reads len = record { takes = text_takes len; again = text_again len }

pub text_early : (len : ℕ) → EndsEarly len (text_at len)
unfolding text_at
text_early len bytes e h =
    bind_early len (number_at len w16) (λ n. cond (ltb (length n.1) n.0) (Err (Short len)) (Ok (take n.0 n.1, drop n.0 n.1))) bytes e (number_early len w16)
    (λ x h. sym (guard_err (ltb (length x.1) x.0) (Short len) (take x.0 x.1, drop x.0 x.1) e h)) h

-- ---- lists

abbrev pub AreSo : {A : Type 0} → ℕ → (A → Type 0) → List A → Type 0
AreSo n Fits xs = (length xs ≡ n) × All Fits xs

pub items_take : {A : Type 0} (len : ℕ) (item : List ℕ → Read A) (spell : A → List ℕ) (Fits : A → Type 0) → Reads len item spell Fits
    → (n : ℕ) (bytes : List ℕ) (x : List A × List ℕ) → IsBytes bytes → items_at item n bytes ≡ Ok x → Takes bytes (flat_map spell x.0) x.1 × AreSo n Fits x.0
unfolding items_at
items_take {A} len item spell Fits reads zero bytes x fits e =
    let none : List A × List ℕ = ([], bytes) in
    subst (λ (y : List A × List ℕ). Takes bytes (flat_map spell y.0) y.1 × AreSo 0 Fits y.0) (ok_is none x e) (record { parts = refl; rest_fits = fits }, (refl, All-nil Fits))
items_take {A} len item spell Fits reads (suc n) bytes x fits e =
    let a = bind_ok (item bytes) (λ first. items_at item n first.1 >>= λ others. Ok (first.0 ∷ others.0, others.1)) x e in
    let b = bind_ok (items_at item n a.0.1) (λ others. Ok (a.0.0 ∷ others.0, others.1)) x a.2 in
    let t = reads.takes bytes a.0 fits a.1 in
    let u = items_take len item spell Fits reads n a.0.1 b.0 t.0.rest_fits b.1 in
    let made : List A × List ℕ = (a.0.0 ∷ b.0.0, b.0.1) in
    subst (λ (y : List A × List ℕ). Takes bytes (flat_map spell y.0) y.1 × AreSo (suc n) Fits y.0) (ok_is made x b.2)
    (Takes-then bytes (spell a.0.0) a.0.1 (flat_map spell b.0.0) b.0.1 t.0 u.0, (ap suc u.1.0, All-cons Fits a.0.0 b.0.0 t.1 u.1.1))

pub items_again : {A : Type 0} (len : ℕ) (item : List ℕ → Read A) (spell : A → List ℕ) (Fits : A → Type 0) → Reads len item spell Fits
    → (xs : List A) (rest : List ℕ) → All Fits xs → items_at item (length xs) (flat_map spell xs ++ rest) ≡ Ok (xs, rest)
unfolding items_at
items_again len item spell Fits reads [] rest fits = refl
items_again len item spell Fits reads (x ∷ xs) rest fits =
    let regrouped : (spell x ++ flat_map spell xs) ++ rest ≡ spell x ++ (flat_map spell xs ++ rest) = append_assoc (spell x) (flat_map spell xs) rest in
    rw (regrouped, reads.again x (flat_map spell xs ++ rest) (All-head Fits x xs fits), items_again len item spell Fits reads xs rest (All-tail Fits x xs fits)) refl

pub items_early : {A : Type 0} (len : ℕ) (item : List ℕ → Read A) → EndsEarly len item → (n : ℕ) → EndsEarly len (items_at item n)
unfolding items_at
items_early len item early zero bytes e h = absurd cc
items_early len item early (suc n) bytes e h =
    bind_early len item (λ first. items_at item n first.1 >>= λ others. Ok (first.0 ∷ others.0, others.1)) bytes e early
    (λ x h. bind_early len (items_at item n) (λ others. Ok (x.0 ∷ others.0, others.1)) x.1 e (items_early len item early n) (λ y h. absurd cc) h) h

abbrev pub AreFew : {A : Type 0} → (A → Type 0) → List A → Type 0
AreFew Fits xs = IsCountable xs × All Fits xs

counted_takes : {A : Type 0} (len : ℕ) (item : List ℕ → Read A) (spell : A → List ℕ) (Fits : A → Type 0) → Reads len item spell Fits
    → (bytes : List ℕ) (x : List A × List ℕ) → IsBytes bytes → counted_at len item bytes ≡ Ok x → Takes bytes (counted spell x.0) x.1 × AreFew Fits x.0
unfolding counted_at
counted_takes {A} len item spell Fits reads bytes x fits e =
    let a = bind_ok (number_at len w16 bytes) (λ n. items_at item n.0 n.1) x e in
    let t = number_takes len w16 wide16 bytes a.0 fits a.1 in
    let u = items_take len item spell Fits reads a.0.0 a.0.1 x t.0.rest_fits a.2 in
    let both = Takes-then bytes (number w16 a.0.0) a.0.1 (flat_map spell x.0) x.1 t.0 u.0 in
    (subst (λ (k : ℕ). Takes bytes (number w16 k ++ flat_map spell x.0) x.1) (sym u.1.0) both, (omega (arith, t.1, u.1.0), u.1.1))

counted_again : {A : Type 0} (len : ℕ) (item : List ℕ → Read A) (spell : A → List ℕ) (Fits : A → Type 0) → Reads len item spell Fits
    → (xs : List A) (rest : List ℕ) → AreFew Fits xs → counted_at len item (counted spell xs ++ rest) ≡ Ok (xs, rest)
unfolding counted_at
counted_again len item spell Fits reads xs rest fits =
    let regrouped : counted spell xs ++ rest ≡ number w16 (length xs) ++ (flat_map spell xs ++ rest) = append_assoc (number w16 (length xs)) (flat_map spell xs) rest in
    rw (regrouped, number_again len w16 wide16 (length xs) (flat_map spell xs ++ rest) fits.0) (items_again len item spell Fits reads xs rest fits.1)

pub counted_reads : {A : Type 0} (len : ℕ) (item : List ℕ → Read A) (spell : A → List ℕ) (Fits : A → Type 0) → Reads len item spell Fits → Reads len (counted_at len item) (counted spell) (AreFew Fits)
counted_reads len item spell Fits reads = record { takes = counted_takes len item spell Fits reads; again = counted_again len item spell Fits reads }

pub counted_early : {A : Type 0} (len : ℕ) (item : List ℕ → Read A) → EndsEarly len item → EndsEarly len (counted_at len item)
unfolding counted_at
counted_early len item early bytes e h = bind_early len (number_at len w16) (λ n. items_at item n.0 n.1) bytes e (number_early len w16) (λ x h. items_early len item early x.0 x.1 e h) h
