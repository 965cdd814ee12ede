-- Spaces at the ends of a text, and the file name of a project line.
use Rattle.std.proofs.Common.{◌≡◌, ◌≢◌, ◌<◌, ◌+◌, ◌-◌, ℕ, zero, suc, Bool, true, false, ◌&&◌, nat_eq, cond, List, [], ◌∷◌, ◌++◌, length, take, drop, replicate, slice_index_or, refl, sym, true≢false, ◌∙◌, ap, arith}
use Rattle.std.specs.Str.{IsUtf8}
use Rattle.std.proofs.lemmas.Bool.{ne_eqb, eqb-true, eqb-false}
use Rattle.std.proofs.lemmas.Grind.{take_at_read}
use Rattle.std.proofs.lemmas.List.{take_all, append_cancel_left, take-append-drop}
use Rattle.std.proofs.Math.Seq.{take-append_seam}
use Rattle.std.specs.Cmp.Lexicographic.{pointwise, bytes_decides}
use Rattle.bk_front.specs.Trims.{trim_front, trim_back, is_empty}
use Rattle.bk_front.specs.ProjectFile.{first_or, last_or, IsLine}

front_of : (k : ℕ) (xs : List ℕ) → trim_front (replicate k 32 ++ xs) ≡ trim_front xs
front_of zero xs = refl
front_of (suc k) xs = front_of k xs

front_keeps : (xs : List ℕ) → first_or 32 xs ≢ 32 → trim_front xs ≡ xs
front_keeps [] h = refl
front_keeps (c ∷ cs) h = rw (ne_eqb c 32 h) refl

back_blank : (k : ℕ) → trim_back (replicate k 32) ≡ []
back_blank zero = refl
back_blank (suc k) = rw (back_blank k) refl

back_of : (xs : List ℕ) (k : ℕ) → trim_back (xs ++ replicate k 32) ≡ trim_back xs
back_of [] k = back_blank k
back_of (c ∷ cs) k = ap (λ ys. cond (nat_eq c 32 && is_empty ys) [] (c ∷ ys)) (back_of cs k)

kept_head : (b : Bool) (c d : ℕ) (ds : List ℕ) → cond (b && false) [] (c ∷ d ∷ ds) ≡ c ∷ d ∷ ds
kept_head true c d ds = refl
kept_head false c d ds = refl

back_keeps : (xs : List ℕ) → last_or 32 xs ≢ 32 → trim_back xs ≡ xs
back_keeps [] h = refl
back_keeps (c ∷ []) h = rw (ne_eqb c 32 h) refl
back_keeps (c ∷ d ∷ ds) h = rw (back_keeps (d ∷ ds) h) (kept_head (nat_eq c 32) c d ds)

last_at : (xs : List ℕ) (d e : ℕ) → 0 < length xs → last_or d xs ≡ slice_index_or xs (length xs - 1) e
last_at [] d e h = absurd (omega (arith, h))
last_at (c ∷ []) d e h = refl
last_at (c ∷ x ∷ xs) d e h = last_at (x ∷ xs) d e (omega arith) ∙ ap (λ n. slice_index_or (x ∷ xs) n e) short ∙ ap (λ n. slice_index_or (c ∷ x ∷ xs) n e) long
  where
    short : length (x ∷ xs) - 1 ≡ length xs
    short = omega arith

    long : suc (length xs) ≡ length (c ∷ x ∷ xs) - 1
    long = omega arith

whole : (xs : List ℕ) → 0 < length xs → take (length xs - 1) xs ++ slice_index_or xs (length xs - 1) 0 ∷ [] ≡ xs
whole xs some = sym ((take_at_read xs (length xs - 1) 0 (omega (arith, some))).1) ∙ take_all (length xs - 1 + 1) xs (omega (arith, some))

pub back_step : (xs : List ℕ) → 0 < length xs → slice_index_or xs (length xs - 1) 0 ≡ 32 → trim_back (take (length xs - 1) xs) ≡ trim_back xs
back_step xs some last =
    let all : take (length xs - 1) xs ++ 32 ∷ [] ≡ xs = rw (sym last) (whole xs some) in
    sym (back_of (take (length xs - 1) xs) 1) ∙ ap trim_back all

pub back_done : (xs : List ℕ) → 0 < length xs → slice_index_or xs (length xs - 1) 0 ≢ 32 → trim_back xs ≡ xs
back_done xs some last = back_keeps xs (λ e. last (sym (last_at xs 32 0 some) ∙ e))

-- ---- what stands behind a word
pub stands_behind : (word line : List ℕ) → pointwise nat_eq (take (length word) line) word ≡ true → line ≡ word ++ drop (length word) line
stands_behind word line same =
    sym (take-append-drop (length word) line) ∙ ap (λ front. front ++ drop (length word) line) ((bytes_decides (take (length word) line) word).0 same)

pub stands_nowhere : (word line : List ℕ) → pointwise nat_eq (take (length word) line) word ≡ false → (rest : List ℕ) → line ≢ word ++ rest
stands_nowhere word line other rest e =
    true≢false (sym ((bytes_decides (take (length word) line) word).1 (ap (take (length word)) e ∙ take-append_seam word rest)) ∙ other)

-- ---- the file name of a line
pub no_word : (word line : List ℕ) → ((rest : List ℕ) → line ≢ word ++ rest) → (name : List ℕ) → IsLine word name line → ⊥
no_word word line h name is = h (replicate is.before 32 ++ (name ++ replicate is.after 32)) is.written

-- the rest of a line for a file
rest_of : (word line rest name : List ℕ) → line ≡ word ++ rest → (is : IsLine word name line) → rest ≡ replicate is.before 32 ++ (name ++ replicate is.after 32)
rest_of word line rest name e is = append_cancel_left word rest (replicate is.before 32 ++ (name ++ replicate is.after 32)) (sym e ∙ is.written)

first_blank : (k : ℕ) (xs : List ℕ) → 0 < k → first_or 0 (replicate k 32 ++ xs) ≡ 32
first_blank zero xs h = absurd (omega (arith, h))
first_blank (suc k) xs h = refl

pub no_space : (word line rest : List ℕ) → line ≡ word ++ rest → first_or 0 rest ≢ 32 → (name : List ℕ) → IsLine word name line → ⊥
no_space word line rest e h name is = h (ap (first_or 0) (rest_of word line rest name e is) ∙ first_blank is.before (name ++ replicate is.after 32) is.apart)

-- the name is what the spaces enclose
trimmed : (b a : ℕ) (name : List ℕ) → first_or 32 name ≢ 32 → last_or 32 name ≢ 32 → trim_back (trim_front (replicate b 32 ++ (name ++ replicate a 32))) ≡ name
trimmed b a name f l = rw (front_of b (name ++ replicate a 32)) (ap trim_back (front_keeps (name ++ replicate a 32) (begins name f)) ∙ back_of name a ∙ back_keeps name l)
  where
    begins : (xs : List ℕ) → first_or 32 xs ≢ 32 → first_or 32 (xs ++ replicate a 32) ≢ 32
    begins [] h = absurd (h refl)
    begins (c ∷ cs) h = h

some_of : (xs : List ℕ) → first_or 32 xs ≢ 32 → 0 < length xs
some_of [] h = absurd (h refl)
some_of (c ∷ cs) h = omega arith

pub no_text : (word line rest : List ℕ) → line ≡ word ++ rest → ((0 < length (trim_back (trim_front rest))) × IsUtf8 (trim_back (trim_front rest)) → ⊥) → (name : List ℕ) → IsLine word name line → ⊥
no_text word line rest e h name is =
    let same : trim_back (trim_front rest) ≡ name = ap (λ xs. trim_back (trim_front xs)) (rest_of word line rest name e is) ∙ trimmed is.before is.after name is.is_name.first is.is_name.last in
    h (rw same (some_of name is.is_name.first), rw same is.is_name.text)

-- a text is the spaces at its front and the rest
fronts_by : (b : Bool) (c : ℕ) (cs : List ℕ) → (b ≡ true → c ≡ 32) → (k : ℕ) × (cs ≡ replicate k 32 ++ trim_front cs) → (k : ℕ) × (c ∷ cs ≡ replicate k 32 ++ cond b (trim_front cs) (c ∷ cs))
fronts_by true c cs h r = (suc r.0, ap (λ x. x ∷ cs) (h refl) ∙ ap (λ ys. 32 ∷ ys) r.1)
fronts_by false c cs h r = (0, refl)

fronts : (xs : List ℕ) → (k : ℕ) × (xs ≡ replicate k 32 ++ trim_front xs)
fronts [] = (0, refl)
fronts (c ∷ cs) = fronts_by (nat_eq c 32) c cs (eqb-true c 32) (fronts cs)

-- and the spaces at its back
backs_by : (b : Bool) (c : ℕ) (cs ys : List ℕ) → (b ≡ true → c ≡ 32) → (k : ℕ) × (cs ≡ ys ++ replicate k 32) → (k : ℕ) × (c ∷ cs ≡ cond (b && is_empty ys) [] (c ∷ ys) ++ replicate k 32)
backs_by true c cs [] h r = (suc r.0, ap (λ x. x ∷ cs) (h refl) ∙ ap (λ zs. 32 ∷ zs) r.1)
backs_by true c cs (y ∷ ys) h r = (r.0, ap (λ zs. c ∷ zs) r.1)
backs_by false c cs ys h r = (r.0, ap (λ zs. c ∷ zs) r.1)

backs : (xs : List ℕ) → (k : ℕ) × (xs ≡ trim_back xs ++ replicate k 32)
backs [] = (0, refl)
backs (c ∷ cs) = backs_by (nat_eq c 32) c cs (trim_back cs) (eqb-true c 32) (backs cs)

-- what is trimmed begins and ends with another character
front_ends_by : (b : Bool) (c : ℕ) (cs : List ℕ) → (b ≡ false → c ≢ 32) → (0 < length (trim_front cs) → first_or 32 (trim_front cs) ≢ 32) → 0 < length (cond b (trim_front cs) (c ∷ cs)) → first_or 32 (cond b (trim_front cs) (c ∷ cs)) ≢ 32
front_ends_by true c cs f on h = on h
front_ends_by false c cs f on h = f refl

front_ends : (xs : List ℕ) → 0 < length (trim_front xs) → first_or 32 (trim_front xs) ≢ 32
front_ends [] h = absurd (omega (arith, h))
front_ends (c ∷ cs) h = front_ends_by (nat_eq c 32) c cs (eqb-false c 32) (front_ends cs) h

back_ends_by : (b : Bool) (c : ℕ) (ys : List ℕ) → (b ≡ false → c ≢ 32) → (0 < length ys → last_or 32 ys ≢ 32) → 0 < length (cond (b && is_empty ys) [] (c ∷ ys)) → last_or 32 (cond (b && is_empty ys) [] (c ∷ ys)) ≢ 32
back_ends_by true c [] f on h = absurd (omega (arith, h))
back_ends_by true c (y ∷ ys) f on h = on (omega arith)
back_ends_by false c [] f on h = f refl
back_ends_by false c (y ∷ ys) f on h = on (omega arith)

back_ends : (xs : List ℕ) → 0 < length (trim_back xs) → last_or 32 (trim_back xs) ≢ 32
back_ends [] h = absurd (omega (arith, h))
back_ends (c ∷ cs) h = back_ends_by (nat_eq c 32) c (trim_back cs) (eqb-false c 32) (back_ends cs) h

back_first_by : (b : Bool) (c : ℕ) (ys : List ℕ) → 0 < length (cond (b && is_empty ys) [] (c ∷ ys)) → first_or 32 (cond (b && is_empty ys) [] (c ∷ ys)) ≡ c
back_first_by true c [] h = absurd (omega (arith, h))
back_first_by true c (y ∷ ys) h = refl
back_first_by false c ys h = refl

back_first : (xs : List ℕ) → 0 < length (trim_back xs) → first_or 32 (trim_back xs) ≡ first_or 32 xs
back_first [] h = refl
back_first (c ∷ cs) h = back_first_by (nat_eq c 32) c (trim_back cs) h

some_below : (xs : List ℕ) → 0 < length (trim_back xs) → 0 < length xs
some_below [] h = h
some_below (c ∷ cs) h = omega arith

spaces_first : (k : ℕ) (xs : List ℕ) → first_or 0 (replicate k 32 ++ xs) ≡ 32 → first_or 32 xs ≢ 32 → 0 < k
spaces_first zero [] h f = absurd (f refl)
spaces_first zero (c ∷ cs) h f = absurd (f h)
spaces_first (suc k) xs h f = omega arith

pub is_line : (word line rest : List ℕ) → line ≡ word ++ rest → first_or 0 rest ≡ 32 → (0 < length (trim_back (trim_front rest))) × IsUtf8 (trim_back (trim_front rest)) → IsLine word (trim_back (trim_front rest)) line
is_line word line rest e space text =
    let before = fronts rest in
    let after = backs (trim_front rest) in
    let some : 0 < length (trim_front rest) = some_below (trim_front rest) text.0 in
    record {
      before = before.0;
      after = after.0;
      apart = spaces_first before.0 (trim_front rest) (ap (first_or 0) (sym before.1) ∙ space) (front_ends rest some);
      written = e ∙ ap (λ xs. word ++ xs) (before.1 ∙ ap (λ xs. replicate before.0 32 ++ xs) after.1);
      is_name = record {
        text = text.1;
        first = λ h. front_ends rest some (sym (back_first (trim_front rest) text.0) ∙ h);
        last = back_ends (trim_front rest) text.0;
      };
    }

-- a line names one file
pub name_once : (word line name other : List ℕ) → IsLine word name line → IsLine word other line → name ≡ other
name_once word line name other h k =
    let rest : List ℕ = replicate h.before 32 ++ (name ++ replicate h.after 32) in
    sym (trimmed h.before h.after name h.is_name.first h.is_name.last) ∙ ap (λ xs. trim_back (trim_front xs)) (rest_of word line rest other h.written k) ∙
    trimmed k.before k.after other k.is_name.first k.is_name.last
