-- Parts of bytes with one more part behind them.
use Rattle.std.proofs.Common.{◌≡◌, ℕ, ◌+◌, ◌≤◌, ◌<◌, Result, Ok, Err, OnErr, is_ok, cond, List, [], ◌∷◌, ◌++◌, take, drop, length, refl, sym, ◌∙◌, ap, arith}
use Rattle.std.proofs.lemmas.List.{take-append-le, drop-append-le, length-drop, take_all, length-append}
use Rattle.bk_io.specs.declared.part.Part.{Part}
use Rattle.bk_io.specs.Parts.{total, pieces_in}

pub total-append : (parts : List Part) (part : Part) → total (parts ++ part ∷ []) ≡ total parts + part.count
total-append [] part = omega arith
total-append (p ∷ parts) part = let rest = total-append parts part in omega (arith, rest)

none-left : (bytes : List ℕ) → 0 ≡ length bytes → bytes ≡ []
none-left [] h = refl
none-left (b ∷ bytes) h = absurd (omega (arith, h))

-- the pieces stay, and the new part has the new bytes
pub pieces-append : (parts : List Part) (part : Part) (bytes more : List ℕ) → total parts ≡ length bytes → part.count ≡ length more →
    pieces_in (parts ++ part ∷ []) (bytes ++ more) ≡ pieces_in parts bytes ++ record { bytes = more; is_whole = part.is_whole } ∷ []
pieces-append [] part bytes more h k =
    ap (λ xs. pieces_in (part ∷ []) (xs ++ more)) (none-left bytes h) ∙ ap (λ xs. record { bytes = xs; is_whole = part.is_whole } ∷ []) (take_all part.count more (omega (arith, k)))
pieces-append (p ∷ parts) part bytes more h k =
    let within : p.count ≤ length bytes = omega (arith, h) in
    let front : take p.count (bytes ++ more) ≡ take p.count bytes = take-append-le p.count bytes more within in
    let back : drop p.count (bytes ++ more) ≡ drop p.count bytes ++ more = drop-append-le p.count bytes more within in
    let rest = pieces-append parts part (drop p.count bytes) more (omega (arith, h, length-drop p.count bytes)) k in
    λ i. record { bytes = front i; is_whole = p.is_whole } ∷ (ap (pieces_in (parts ++ part ∷ [])) back ∙ rest) i

-- with one part more the parts are still all bytes, and no more than these
pub all-appended : (old new : List Part) (part : Part) (bytes more longer : List ℕ) → new ≡ old ++ part ∷ [] → longer ≡ bytes ++ more → total old ≡ length bytes → part.count ≡ length more → total new ≡ length longer
all-appended old new part bytes more longer e f h k =
    ap total e ∙ total-append old part ∙ (λ i. h i + k i) ∙ sym (length-append bytes more) ∙ ap length (sym f)

pub few-appended : (old new : List Part) (part : Part) (bytes more longer : List ℕ) → new ≡ old ++ part ∷ [] → longer ≡ bytes ++ more → length old ≤ length bytes → 0 < length more → length new ≤ length longer
few-appended old new part bytes more longer e f h k =
    let parts : length new ≡ length (old ++ part ∷ []) = ap length e in
    let all : length longer ≡ length (bytes ++ more) = ap length f in
    omega (arith, parts, all, h, k, length-append old (part ∷ []), length-append bytes more)

-- where there is room the items end with the new one
pub has_room : {E A : Type 0} (r : Result Unit E) (xs ys : List A) (x : A) (len capacity : ℕ) → ys ≡ cond (is_ok r) (xs ++ x ∷ []) xs → OnErr r (capacity ≤ len) → len < capacity → ys ≡ xs ++ x ∷ []
has_room (Ok u) xs ys x len capacity e full room = e
has_room (Err f) xs ys x len capacity e full room = absurd (omega (arith, full, room))

pub ruleset cuts = (total-append, pieces-append)
