-- What the pieces of a text that is put as one tell of it.
use Rattle.std.proofs.Common.{◌≡◌, ◌≢◌, ℕ, zero, suc, ◌+◌, ◌<◌, ◌≤◌, Bool, true, false, cond, nat_eq, List, [], ◌∷◌, ◌++◌, take, drop, length, All, refl, sym, ◌∙◌, ap, subst, arith}
use Rattle.std.proofs.lemmas.Bool.Decides.{nat_tests}
use Rattle.std.proofs.lemmas.List.{append_assoc, append-nil, take_all, take-append-drop, length-drop}
use Rattle.std.proofs.lemmas.List.Elements.{All-nil, All-cons, All-append}
use Rattle.bk_io.specs.Pieces.{Piece, taken_of, pieces_of, left_of}
use Rattle.bk_io.specs.Laws.{bytes_in, IsFront, PiecesTell}

bytes-append : (ps qs : List Piece) → bytes_in (ps ++ qs) ≡ bytes_in ps ++ bytes_in qs
bytes-append [] qs = refl
bytes-append (p ∷ ps) qs = ap (λ bs. p.bytes ++ bs) (bytes-append ps qs) ∙ sym (append_assoc p.bytes (bytes_in ps) (bytes_in qs))

bytes-taken : (text : List ℕ) (n : ℕ) → bytes_in (taken_of text n) ≡ take n text
bytes-taken text zero = refl
bytes-taken text (suc n) =
    let some : nat_eq (suc n) 0 ≡ false = grind (arith, nat_tests) in
    ap (λ b. bytes_in (cond b [] (record { bytes = take (suc n) text; is_whole = nat_eq (suc n) (length text) } ∷ []))) some ∙ append-nil (take (suc n) text)

bytes-left : (text counts : List ℕ) → bytes_in (pieces_of text counts) ++ left_of text counts ≡ text
bytes-left text [] = refl
bytes-left text (n ∷ counts) =
    ap (λ bs. bs ++ left_of (drop n text) counts) (bytes-append (taken_of text n) (pieces_of (drop n text) counts) ∙ ap (λ bs. bs ++ bytes_in (pieces_of (drop n text) counts)) (bytes-taken text n))
    ∙ append_assoc (take n text) (bytes_in (pieces_of (drop n text) counts)) (left_of (drop n text) counts)
    ∙ ap (λ bs. take n text ++ bs) (bytes-left (drop n text) counts)
    ∙ take-append-drop n text

-- less is left than there was
few-left : (text counts : List ℕ) → length (left_of text counts) ≤ length text
few-left text [] = omega arith
few-left text (n ∷ counts) = let rest = few-left (drop n text) counts in omega (arith, rest, length-drop n text)

front-taken : (text : List ℕ) (n : ℕ) → n < length text → All IsFront (taken_of text n)
front-taken text zero h = All-nil IsFront
front-taken text (suc n) h =
    let some : nat_eq (suc n) 0 ≡ false = grind (arith, nat_tests) in
    let front : nat_eq (suc n) (length text) ≡ false = grind (arith, nat_tests) in
    subst (λ b. All IsFront (cond b [] (record { bytes = take (suc n) text; is_whole = nat_eq (suc n) (length text) } ∷ []))) (sym some)
    (All-cons IsFront (record { bytes = take (suc n) text; is_whole = nat_eq (suc n) (length text) }) [] front (All-nil IsFront))

all-fronts : (text counts : List ℕ) → 0 < length (left_of text counts) → All IsFront (pieces_of text counts)
all-fronts text [] h = All-nil IsFront
all-fronts text (n ∷ counts) h =
    let some : n < length text = let few = few-left (drop n text) counts in omega (arith, h, few, length-drop n text) in
    All-append IsFront (taken_of text n) (pieces_of (drop n text) counts) (front-taken text n some) (all-fronts (drop n text) counts h)

at-once : (byte : ℕ) (bytes : List ℕ) → pieces_of (byte ∷ bytes) (length (byte ∷ bytes) ∷ []) ≡ record { bytes = byte ∷ bytes; is_whole = true } ∷ []
at-once byte bytes =
    let all : take (length (byte ∷ bytes)) (byte ∷ bytes) ≡ byte ∷ bytes = take_all (length (byte ∷ bytes)) (byte ∷ bytes) (omega arith) in
    let whole : nat_eq (length (byte ∷ bytes)) (length (byte ∷ bytes)) ≡ true = grind (arith, nat_tests) in
    let some : nat_eq (length (byte ∷ bytes)) 0 ≡ false = grind (arith, nat_tests) in
    ap (λ b. cond b [] (record { bytes = take (length (byte ∷ bytes)) (byte ∷ bytes); is_whole = nat_eq (length (byte ∷ bytes)) (length (byte ∷ bytes)) } ∷ []) ++ []) some
    ∙ ap (λ bs. record { bytes = bs; is_whole = nat_eq (length (byte ∷ bytes)) (length (byte ∷ bytes)) } ∷ []) all
    ∙ ap (λ b. record { bytes = byte ∷ bytes; is_whole = b } ∷ []) whole

pub pieces_tell : PiecesTell
pieces_tell = record { bytes = bytes-left; fronts = all-fronts; at_once = at-once }
