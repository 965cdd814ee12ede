-- What is held of arguments while they are read.
use Rattle.std.proofs.Common.{◌≡◌, ℕ, suc, ◌<◌, refl, sym, ◌∙◌, ap, arith, List, [], ◌∷◌, ◌++◌, length, map, Option, Some, None}
use Rattle.std.specs.Prelude.{ℤ}
use Rattle.std.specs.List.{slice_split}
use Rattle.std.specs.Option.{option_map}
use Rattle.std.proofs.lemmas.List.{append_assoc}
use Rattle.bk_calls.specs.CallLine.{Argument, Number}
use Rattle.bk_calls.specs.Reading.{kept, kept_argument, number_or, in_front_of, argument_in, arguments_in, is_comma, pieces_left, before_byte, after_byte}
use Rattle.bk_calls.proofs.Cuts.{pieces_cut}

pub number_held : (o : Option ℤ) (p : Option Argument) (n : ℤ) → Some n ≡ option_map kept o → Some (Number n) ≡ option_map kept_argument (number_or o p)
number_held None p n h = absurd cc
number_held (Some m) p n h = (let e : n ≡ kept m = cc in ap (λ k. Some (Number k)) e)

-- arguments with their numbers as they are held
abbrev pub all_kept : Option (List Argument) → Option (List Argument)
all_kept os = option_map (map kept_argument) os

abbrev pub behind_those : List Argument → Option (List Argument) → Option (List Argument)
behind_those first os = option_map (λ others. first ++ others) os

-- one argument more is read
pub one_more : (first : List Argument) (a : Argument) (o : Option Argument) (os : Option (List Argument)) → Some a ≡ option_map kept_argument o →
    behind_those (first ++ (a ∷ [])) (all_kept os) ≡ behind_those first (all_kept (in_front_of o os))
one_more first a None os h = absurd cc
one_more first a (Some b) None h = refl
one_more first a (Some b) (Some bs) h =
    let e : a ≡ kept_argument b = cc in
    ap (λ t. Some t) (append_assoc first (a ∷ []) (map kept_argument bs)) ∙ ap (λ c. Some (first ++ (c ∷ map kept_argument bs))) e

pub no_more : (first : List Argument) (o : Option Argument) (os : Option (List Argument)) → None ≡ option_map kept_argument o → behind_those first (all_kept (in_front_of o os)) ≡ None
no_more first None os h = refl
no_more first (Some b) os h = absurd cc

-- ---- one piece of a text more
cut_pieces : (text before : List ℕ) (after : Option (List ℕ)) → before ≡ before_byte 44 text → after ≡ after_byte 44 text → arguments_in (slice_split is_comma text) ≡ in_front_of (argument_in before) (arguments_in (pieces_left after))
cut_pieces text before after h k =
    ap arguments_in (pieces_cut text) ∙ ap (λ t. in_front_of (argument_in t) (arguments_in (pieces_left (after_byte 44 text)))) (sym h) ∙ ap (λ o. in_front_of (argument_in before) (arguments_in (pieces_left o))) (sym k)

pub turn : (first : List Argument) (a : Argument) (text before : List ℕ) (after : Option (List ℕ)) (whole : Option (List Argument)) → before ≡ before_byte 44 text → after ≡ after_byte 44 text →
    Some a ≡ option_map kept_argument (argument_in before) → behind_those first (all_kept (arguments_in (slice_split is_comma text))) ≡ whole →
    behind_those (first ++ (a ∷ [])) (all_kept (arguments_in (pieces_left after))) ≡ whole
turn first a text before after whole h k read is =
    one_more first a (argument_in before) (arguments_in (pieces_left after)) read ∙ ap (λ o. behind_those first (all_kept o)) (sym (cut_pieces text before after h k)) ∙ is

pub stop : (first : List Argument) (text before : List ℕ) (after : Option (List ℕ)) (whole : Option (List Argument)) → before ≡ before_byte 44 text → after ≡ after_byte 44 text →
    None ≡ option_map kept_argument (argument_in before) → behind_those first (all_kept (arguments_in (slice_split is_comma text))) ≡ whole → None ≡ whole
stop first text before after whole h k read is =
    sym (no_more first (argument_in before) (arguments_in (pieces_left after)) read) ∙ ap (λ o. behind_those first (all_kept o)) (sym (cut_pieces text before after h k)) ∙ is

pub fewer_pieces : (text : List ℕ) (after : Option (List ℕ)) → after ≡ after_byte 44 text → length (pieces_left after) < length (slice_split is_comma text)
fewer_pieces text after h = (let e : length (slice_split is_comma text) ≡ suc (length (pieces_left after)) = ap length (pieces_cut text) ∙ ap (λ o. suc (length (pieces_left o))) (sym h) in omega arith)
