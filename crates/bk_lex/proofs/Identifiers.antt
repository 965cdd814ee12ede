-- Identifiers that are read.
use Rattle.std.proofs.Common.{◌≡◌, ℕ, ◌+◌, Bool, true, false, not, List, [], ◌∷◌, ◌++◌, length, take, drop, refl, ap, sym, ◌∙◌, arith, subst, append_assoc, length-append, take-append-drop, drop_of_length-le, Option, Some, None, MatchOption, Bor}
use Rattle.std.specs.List.{list_all}
use Rattle.std.specs.Str.{encode_utf8_all, NonePass, NoCharPasses, IsCharBoundary}
use Rattle.std.specs.Str.Pattern.{HasPassingCharAt}
use Rattle.std.specs.Char.{encode_utf8}
use Rattle.std.proofs.lemmas.Bool.{and_parts, and_from, not-false}
use Rattle.std.proofs.lemmas.List.{take_all}
use Rattle.std.proofs.lemmas.Str.{encode_same, length-encode, len_utf8_bounds}
use Rattle.unicode_ident.specs.Ident.{is_xid_start, is_xid_continue}
use Rattle.unicode_ident.proofs.IdentLemmas.{is_xid_start-is_xid_continue}
use Rattle.bk_lex.specs.Lexis.{is_identifier}
use Rattle.bk_lex.specs.Parts.{ContinuesNot, ContinuesUpTo, IsFirstIdentifier, BeginsNoIdentifier}

abbrev pub stops : ℕ → Bool
stops c = not (is_xid_continue c)

none_stops : (cs : List ℕ) → NonePass stops cs → list_all is_xid_continue cs ≡ true
none_stops [] h = refl
none_stops (c ∷ cs) h = and_from (is_xid_continue c) (list_all is_xid_continue cs) (not-false (is_xid_continue c) h.0) (none_stops cs h.1)

no_empty : (c : ℕ) (after : List ℕ) → [] ≡ encode_utf8 c ++ after → ⊥
no_empty c after e =
    let long : 0 ≡ length (encode_utf8 c) + length after = ap length e ∙ length-append (encode_utf8 c) after in
    omega (arith, length-encode c, len_utf8_bounds c)

pub continues_to_end : (text : List ℕ) → NoCharPasses stops text → IsCharBoundary text (length text) → ContinuesUpTo text (length text)
continues_to_end text n b = record {
  boundary = b;
  characters = n.0;
  spells = take_all (length text) text (omega arith) ∙ sym n.1;
  all = none_stops n.0 n.2;
  ends = λ c after h e. no_empty c after (sym (drop_of_length-le text (omega arith)) ∙ e);
}

pub continues_to : (text : List ℕ) (i j : ℕ) → NoCharPasses stops (take i text) → HasPassingCharAt stops text i j → IsCharBoundary text i → ContinuesUpTo text i
continues_to text i j n p b = record {
  boundary = b;
  characters = n.0;
  spells = sym n.1;
  all = none_stops n.0 n.2;
  ends = ends;
}
  where
    ends : ContinuesNot (drop i text)
    ends c after h e =
        let same : p.0 ≡ c = (encode_same p.0 c (drop j text) after (sym p.2.split ∙ e)).0 in
        let stopped : not (is_xid_continue c) ≡ true = subst (λ d. not (is_xid_continue d) ≡ true) same p.1 in
        let no : not (is_xid_continue c) ≡ false = ap (λ b. not b) h in absurd (cc)

is_word : (cs text rest r : List ℕ) (c : ℕ) → list_all is_xid_continue cs ≡ true → text ≡ encode_utf8_all cs ++ rest → ContinuesNot rest → is_xid_start c ≡ true → text ≡ encode_utf8 c ++ r → is_identifier cs ≡ true
is_word [] text rest r c a s n h e = absurd (n c r (is_xid_start-is_xid_continue c h) (sym s ∙ e))
is_word (d ∷ cs) text rest r c a s n h e =
    let same : (d ≡ c) × (encode_utf8_all cs ++ rest ≡ r) =
    encode_same d c (encode_utf8_all cs ++ rest) r (sym (append_assoc (encode_utf8 d) (encode_utf8_all cs) rest) ∙ sym s ∙ e) in
    and_from (is_xid_start d) (list_all is_xid_continue cs) (subst (λ k. is_xid_start k ≡ true) (sym same.0) h) (tail d cs a)
  where
    tail : (d : ℕ) (cs : List ℕ) → list_all is_xid_continue (d ∷ cs) ≡ true → list_all is_xid_continue cs ≡ true
    tail d cs a = (and_parts (is_xid_continue d) (list_all is_xid_continue cs) a).1

pub first_word : (text : List ℕ) (n c : ℕ) (r : List ℕ) → ContinuesUpTo text n → is_xid_start c ≡ true → text ≡ encode_utf8 c ++ r → IsFirstIdentifier text (take n text) (drop n text)
first_word text n c r u h e =
    let splits : text ≡ take n text ++ drop n text = sym (take-append-drop n text) in record {
      splits = splits;
      identifier = (u.characters, u.spells, is_word u.characters text (drop n text) r c u.all (splits ∙ ap (λ v. v ++ drop n text) u.spells) u.ends h e);
      ends = u.ends;
    }

first_character : (cs after text : List ℕ) → is_identifier cs ≡ true → text ≡ encode_utf8_all cs ++ after → (c : ℕ) × (r : List ℕ) × (is_xid_start c ≡ true) × (text ≡ encode_utf8 c ++ r)
first_character [] after text h e = absurd (cc)
first_character (c ∷ cs) after text h e =
    (c, encode_utf8_all cs ++ after, (and_parts (is_xid_start c) (list_all is_xid_continue cs) h).0, e ∙ append_assoc (encode_utf8 c) (encode_utf8_all cs) after)

pub no_word_in_nothing : (text : List ℕ) → text ≡ [] → BeginsNoIdentifier text
no_word_in_nothing text z word after w e =
    let f : (c : ℕ) × (r : List ℕ) × (is_xid_start c ≡ true) × (text ≡ encode_utf8 c ++ r) = first_character w.0 after text w.2 (e ∙ ap (λ v. v ++ after) w.1) in
    no_empty f.0 f.1 (sym z ∙ f.3)

pub no_word : (text : List ℕ) (c : ℕ) (r : List ℕ) → text ≡ encode_utf8 c ++ r → is_xid_start c ≡ false → BeginsNoIdentifier text
no_word text c r s h word after w e =
    let f : (c : ℕ) × (r : List ℕ) × (is_xid_start c ≡ true) × (text ≡ encode_utf8 c ++ r) = first_character w.0 after text w.2 (e ∙ ap (λ v. v ++ after) w.1) in
    let same : f.0 ≡ c = (encode_same f.0 c f.1 r (sym f.3 ∙ s)).0 in
    let yes : is_xid_start c ≡ true = subst (λ k. is_xid_start k ≡ true) same f.2 in absurd (cc)

pub nothing : (text : List ℕ) → length text ≡ 0 → text ≡ []
nothing [] h = refl
nothing (c ∷ text) h = absurd (omega arith)

pub none_in_nothing : (found : Option (Bor (List ℕ) × Bor (List ℕ))) (text : List ℕ) → found ≡ None → text ≡ [] → MatchOption found (BeginsNoIdentifier text) (λ pair. IsFirstIdentifier text pair.0.now pair.1.now)
none_in_nothing None text e z = no_word_in_nothing text z
none_in_nothing (Some p) text e z = absurd (cc)
