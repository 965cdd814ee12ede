-- Parts of rules in front of tokens, one behind another.
use Rattle.std.specs.Prelude.{◌≡◌, ℕ, ◌-◌, ◌≤◌, Bool, true, false, ◌||◌, List, [], ◌∷◌, ◌++◌, length, map, refl}
use Rattle.std.proofs.Common.{take, drop, get_or, arith, sym, ◌∙◌, ap, subst, append_assoc, append-nil, length-append}
use Rattle.bk_form.specs.declared.token.Token.{Token}
use Rattle.bk_raw.specs.Trees.ScriptTree.{PartKind, one_number, one_place, one_law, RulePart, part_number, part_place, part_law, part_height}
use Rattle.bk_raw.specs.Grammar.ScriptSpelling.{Spelled, Ruled}
use Rattle.bk_raw.proofs.Steps.{step, Leads}
use Rattle.bk_raw.proofs.Runs.{Halts}
use Rattle.bk_raw.proofs.PartOne.{one-digits, ends_law, law-leads, one-law}
use Rattle.bk_raw.proofs.RuleOne.{place-stops}
use Rattle.bk_p_expr.specs.Fronts.{Longest, Nothing}
use Rattle.bk_p_proof.specs.Kinds.{IsShape, kind_of}
use Rattle.bk_p_proof.specs.declared.part.PartKind.{PartKind as Asked}
use Rattle.bk_raw.specs.declared.script.RulePart.{RulePart as RawPart}
use Rattle.bk_raw.specs.Codes.ScriptView.{part_of}
use Rattle.bk_p_proof.specs.Kept.{IsKept, IsPart, AreParts, parts_height, parts_names}
use Rattle.bk_p_proof.specs.TypedNames.{part_names}
use Rattle.bk_p_proof.proofs.Cuts.{IsPrefixFree, free_single, cuts_by}

-- ---- where a part is cut that is not the last one
number_free : IsPrefixFree (Spelled one_number)
number_free = free_single (Spelled one_number) single one
  where
    single : (x : RulePart) (ts : List Token) → Spelled one_number x ts → (t : Token) × (ts ≡ t ∷ [])
    single (part_number n) ts h = (h.0, h.1)
    single _ ts h = absurd h

    one : (x y : RulePart) (ts : List Token) → Spelled one_number x ts → Spelled one_number y ts → x ≡ y
    one (part_number m) (part_number n) ts h k = ap part_number (one-digits m n ts h k)
    one (part_number m) _ ts h k = absurd k
    one _ y ts h k = absurd h

law_lead : (x : RulePart) → Leads ends_law (0, false) (0, true) (Spelled one_law x)
law_lead (part_law m us) = law-leads m us
law_lead _ = λ ts h. absurd h

laws_one : (x y : RulePart) (ts : List Token) → Spelled one_law x ts → Spelled one_law y ts → x ≡ y
laws_one (part_law m us) (part_law n vs) ts h k = let c = one-law m n us vs ts h k in λ i. part_law (c.0 i) (c.1 i)
laws_one (part_law m us) _ ts h k = absurd k
laws_one _ y ts h k = absurd h

place_halts : (ys : List RulePart) (back after : List Token) → Ruled (one_place ∷ []) ys back → Halts (step ends_law) (0, true) (back ++ after)
place_halts [] back after h = absurd h
place_halts (part_place p ∷ ys) back after h = place-stops p (λ us. Unit {0}) (back ++ after) (h.0, h.1 ++ after, ap (λ us. us ++ after) h.2 ∙ append_assoc h.0 h.1 after, h.3, tt)
place_halts (_ ∷ ys) back after h = absurd h.3

-- it is cut where the others stand behind it
abbrev CutHere : PartKind → List PartKind → Type 0
CutHere k ks = (tokens rest front back after : List Token) (x y : RulePart) (ys : List RulePart) → Longest (Spelled k) tokens x rest → tokens ≡ front ++ (back ++ after) → Spelled k y front → Ruled ks ys back → rest ≡ back ++ after

number_here : (ks : List PartKind) → CutHere one_number ks
number_here ks tokens rest front back after x y ys h e p r =
    let c = number_free x y h.written front rest (back ++ after) (sym h.splits ∙ e) h.spelled p in
    c.1

law_here : CutHere one_law (one_place ∷ [])
law_here tokens rest front back after x y ys h e p r =
    let c = cuts_by (Spelled one_law) ends_law law_lead laws_one tokens rest front (back ++ after) x y h e p (place_halts ys back after r) in
    c.1

cut_here : (k j : PartKind) (ks : List PartKind) → IsShape (k ∷ j ∷ ks) → CutHere k (j ∷ ks)
cut_here one_number j ks s = number_here (j ∷ ks)
cut_here one_law one_place [] s = law_here
cut_here one_law one_place (i ∷ ks) s = absurd s
cut_here one_law _ ks s = absurd s
cut_here _ j ks s = absurd s

-- ---- parts

parts_longest : (k : PartKind) (ks : List PartKind) → IsShape (k ∷ ks) → (tokens ts rest : List Token) (x : RulePart) (xs : List RulePart) → Longest (Spelled k) tokens x ts → Longest (Ruled ks) ts xs rest → (other : List RulePart) (front after : List Token) → tokens ≡ front ++ after → Ruled (k ∷ ks) other front → length rest ≤ length after
parts_longest k ks s tokens ts rest x xs h g [] front after e p = absurd p
parts_longest k [] s tokens ts rest x xs h g (q ∷ []) front after e p = omega (arith, h.longest q p.0 after (e ∙ ap (λ us. us ++ after) (p.2 ∙ ap (λ us. p.0 ++ us) p.4 ∙ append-nil p.0)) p.3, ap length g.splits, length-append g.written rest)
parts_longest k [] s tokens ts rest x xs h g (q ∷ r ∷ qs) front after e p = absurd p.4
parts_longest k (j ∷ ks) s tokens ts rest x xs h g (q ∷ qs) front after e p = g.longest qs p.1 after (cut_here k j ks s tokens ts p.0 p.1 after x q qs h (e ∙ ap (λ us. us ++ after) p.2 ∙ append_assoc p.0 p.1 after) p.3 p.4) p.4

pub parts_found : (k : PartKind) (ks : List PartKind) → IsShape (k ∷ ks) → (tokens ts rest : List Token) (x : RulePart) (xs : List RulePart) → Longest (Spelled k) tokens x ts → Longest (Ruled ks) ts xs rest → Longest (Ruled (k ∷ ks)) tokens (x ∷ xs) rest
parts_found k ks s tokens ts rest x xs h g = record {
  written = h.written ++ g.written;
  splits = h.splits ∙ ap (λ us. h.written ++ us) g.splits ∙ sym (append_assoc h.written g.written rest);
  spelled = (h.written, g.written, refl, h.spelled, g.spelled);
  longest = parts_longest k ks s tokens ts rest x xs h g;
}

pub no_others : (k : PartKind) (ks : List PartKind) → IsShape (k ∷ ks) → (tokens ts : List Token) (x : RulePart) → Longest (Spelled k) tokens x ts → Nothing (Ruled ks) ts → Nothing (Ruled (k ∷ ks)) tokens
no_others k ks s tokens ts x h n [] front after e p = p
no_others k [] s tokens ts x h n (q ∷ qs) front after e p = n [] [] ts refl refl
no_others k (j ∷ ks) s tokens ts x h n (q ∷ qs) front after e p = n qs p.1 after (cut_here k j ks s tokens ts p.0 p.1 after x q qs h (e ∙ ap (λ us. us ++ after) p.2 ∙ append_assoc p.0 p.1 after) p.3 p.4) p.4

-- ---- what is kept of them
pub names_kept : {A B : Type 0} (height : A → ℕ) (names : A → B) (x kept : A) (b : Bool) → IsKept height names x kept b → names kept ≡ names x
names_kept height names x kept false h = ap names h.0
names_kept height names x kept true h = h.0

pub parts_kept : (x y : RulePart) (xs ys : List RulePart) (b c : Bool) → IsPart x y b → AreParts xs ys c → AreParts (x ∷ xs) (y ∷ ys) (b || c)
parts_kept x y xs ys false false h g = ((λ i. h.0 i ∷ g.0 i), omega (arith, h.1, g.1))
parts_kept x y xs ys false true h g =
    let n = names_kept part_height part_names x y false h in
    let m = names_kept parts_height parts_names xs ys true g in
    ((λ i. n i ++ m i), omega (arith, g.1))
parts_kept x y xs ys true c h g =
    let n = names_kept part_height part_names x y true h in
    let m = names_kept parts_height parts_names xs ys c g in
    ((λ i. n i ++ m i), omega (arith, h.1))

-- ---- a first kind, and the others
take_all : (ks : List Asked) → take (length ks) ks ≡ ks
take_all [] = refl
take_all (k ∷ ks) = λ i. k ∷ take_all ks i

one_less : (k : Asked) (ks : List Asked) → length (k ∷ ks) - 1 ≡ length ks
one_less k ks = omega (arith)

others_are : (k : Asked) (ks : List Asked) → take (length (k ∷ ks) - 1) (drop 1 (k ∷ ks)) ≡ ks
others_are k ks = ap (λ n. take n ks) (one_less k ks) ∙ take_all ks

pub others_nothing : (kinds : List Asked) (d : Asked) → 1 ≤ length kinds → IsShape (map kind_of kinds) → (tokens ts : List Token) (x : RulePart) → Longest (Spelled (kind_of (get_or kinds 0 d))) tokens x ts → Nothing (Ruled (map kind_of (take (length kinds - 1) (drop 1 kinds)))) ts → Nothing (Ruled (map kind_of kinds)) tokens
others_nothing [] d l s tokens ts x h n = absurd (omega (arith, l))
others_nothing (k ∷ ks) d l s tokens ts x h n = no_others (kind_of k) (map kind_of ks) s tokens ts x h (subst (λ (js : List Asked). Nothing (Ruled (map kind_of js)) ts) (others_are k ks) n)

pub all_found : (kinds : List Asked) (d : Asked) → 1 ≤ length kinds → IsShape (map kind_of kinds) → (tokens ts rest : List Token) (x : RulePart) (xs : List RulePart) → Longest (Spelled (kind_of (get_or kinds 0 d))) tokens x ts → Longest (Ruled (map kind_of (take (length kinds - 1) (drop 1 kinds)))) ts xs rest → Longest (Ruled (map kind_of kinds)) tokens (x ∷ xs) rest
all_found [] d l s tokens ts rest x xs h g = absurd (omega (arith, l))
all_found (k ∷ ks) d l s tokens ts rest x xs h g = parts_found (kind_of k) (map kind_of ks) s tokens ts rest x xs h (subst (λ (js : List Asked). Longest (Ruled (map kind_of js)) ts xs rest) (others_are k ks) g)

pub all_kept : (x : RulePart) (xs : List RulePart) (y : RawPart) (ys zs : List RawPart) (b c d : Bool) → IsPart x (part_of y) b → AreParts xs (map part_of ys) c → zs ≡ y ∷ ys → d ≡ (b || c) → AreParts (x ∷ xs) (map part_of zs) d
all_kept x xs y ys zs b c d h g e f = subst (λ (us : List RawPart). AreParts (x ∷ xs) (map part_of us) d) (sym e) (subst (AreParts (x ∷ xs) (map part_of (y ∷ ys))) (sym f) (parts_kept x (part_of y) xs (map part_of ys) b c h g))
