-- Parts of rules by what they are.
use Rattle.std.specs.Prelude.{◌≡◌, ℕ, pos, ◌<◌, ◌≤◌, List, [], ◌∷◌, ◌++◌, length, map, max, true, false, refl}
use Rattle.std.proofs.Common.{arith, sym, ◌∙◌, ap}
use Rattle.bk_limits.specs.declared.TheConstants.{GREATEST_TREE_HEIGHT}
use Rattle.bk_form.specs.declared.token.Token.{Token}
use Rattle.bk_form.specs.declared.token.TokenKind.TheVariants.{Number}
use Rattle.bk_ops.specs.declared.sign.TheConstants.{COMMA}
use Rattle.bk_raw.specs.Trees.Numbers.{greatest}
use Rattle.bk_raw.specs.Grammar.Pieces.{Digits, Divided}
use Rattle.bk_raw.specs.Trees.RawTree.{RawTree, RawTrees, no_trees, tree_and, tree_height, trees_height, trees_of}
use Rattle.bk_p_proof.specs.Kept.{IsPart}
use Rattle.bk_raw.specs.Grammar.Spelling.{Spells}
use Rattle.bk_raw.specs.declared.script.RawTyped.{RawTyped}
use Rattle.bk_raw.specs.Trees.ScriptTree.{one_number, one_term, some_terms, one_place, perhaps_place, typed_names, one_law, certificate, RawPlace, RawLine, RulePart, part_number, part_term, part_terms, part_place, part_no_place, part_typed, part_law, part_certificate}
use Rattle.bk_raw.specs.Grammar.ScriptSpelling.{Spelled, Place, TypedName}
use Rattle.bk_p_expr.specs.Fronts.{Longest, Nothing}
use Rattle.bk_p_proof.specs.Ahead.{Ahead}
use Rattle.bk_p_proof.specs.Kinds.{SomeTerms, Lawful, Certified}
use Rattle.bk_p_proof.proofs.Tokens.{digits_longest}

-- ---- the same trees, in a list and as trees
pub heights_same : (ts : List RawTree) → trees_height (trees_of ts) ≡ greatest (map tree_height ts)
heights_same [] = refl
heights_same (t ∷ ts) = ap (max (tree_height t)) (heights_same ts)

abbrev list_of : RawTrees → List RawTree
list_of no_trees = []
list_of (tree_and t ts) = t ∷ list_of ts

listed_again : (ts : List RawTree) → list_of (trees_of ts) ≡ ts
listed_again [] = refl
listed_again (t ∷ ts) = λ i. t ∷ listed_again ts i

pub trees_same : (ts us : List RawTree) → trees_of ts ≡ trees_of us → ts ≡ us
trees_same ts us e = sym (listed_again ts) ∙ ap list_of e ∙ listed_again us

pub terms_kept : (ts us : List RawTree) (n : ℕ) → trees_of us ≡ trees_of ts → n ≡ trees_height (trees_of ts) → n ≤ GREATEST_TREE_HEIGHT → IsPart (part_terms ts) (part_terms us) false
terms_kept ts us n e h l = (ap part_terms (trees_same us ts e), omega (arith, heights_same ts, h, l))

pub terms_too_high : (ts : List RawTree) → GREATEST_TREE_HEIGHT < trees_height (trees_of ts) → IsPart (part_terms ts) part_no_place true
terms_too_high ts l = (refl, omega (arith, heights_same ts, l))

pub law_kept : (name : List ℕ) (ts us : List RawTree) (n : ℕ) → trees_of us ≡ trees_of ts → n ≡ trees_height (trees_of ts) → n ≤ GREATEST_TREE_HEIGHT → IsPart (part_law name ts) (part_law name us) false
law_kept name ts us n e h l = (ap (part_law name) (trees_same us ts e), omega (arith, heights_same ts, h, l))

pub law_too_high : (name : List ℕ) (ts : List RawTree) → GREATEST_TREE_HEIGHT < trees_height (trees_of ts) → IsPart (part_law name ts) part_no_place true
law_too_high name ts l = (refl, omega (arith, heights_same ts, l))

-- ---- numbers
pub number_found : (tokens rest : List Token) (n : ℕ) → Ahead (Number (pos n)) tokens rest → Longest (Spelled one_number) tokens (part_number n) rest
number_found tokens rest n a = let h = digits_longest tokens rest n a in record { written = h.written; splits = h.splits; spelled = h.spelled; longest = longest h }
  where
    longest : Longest Digits tokens n rest → (p : RulePart) (front after : List Token) → tokens ≡ front ++ after → Spelled one_number p front → length rest ≤ length after
    longest h (part_number m) front after e k = h.longest m front after e k
    longest h _ front after e k = absurd k

pub number_nothing : (tokens : List Token) → Nothing Digits tokens → Nothing (Spelled one_number) tokens
number_nothing tokens n (part_number m) front after e k = n m front after e k
number_nothing tokens n _ front after e k = k

-- ---- terms
pub term_found : (tokens rest : List Token) (t : RawTree) → Longest Spells tokens t rest → Longest (Spelled one_term) tokens (part_term t) rest
term_found tokens rest t h = record { written = h.written; splits = h.splits; spelled = h.spelled; longest = longest }
  where
    longest : (p : RulePart) (front after : List Token) → tokens ≡ front ++ after → Spelled one_term p front → length rest ≤ length after
    longest (part_term u) front after e k = h.longest u front after e k
    longest _ front after e k = absurd k

pub term_nothing : (tokens : List Token) → Nothing Spells tokens → Nothing (Spelled one_term) tokens
term_nothing tokens n (part_term t) front after e k = n t front after e k
term_nothing tokens n _ front after e k = k

pub terms_found : (tokens rest : List Token) (ts : List RawTree) → Longest SomeTerms tokens ts rest → Longest (Spelled some_terms) tokens (part_terms ts) rest
terms_found tokens rest ts h = record { written = h.written; splits = h.splits; spelled = h.spelled; longest = longest }
  where
    longest : (p : RulePart) (front after : List Token) → tokens ≡ front ++ after → Spelled some_terms p front → length rest ≤ length after
    longest (part_terms us) front after e k = h.longest us front after e k
    longest _ front after e k = absurd k

pub terms_nothing : (tokens : List Token) → Nothing SomeTerms tokens → Nothing (Spelled some_terms) tokens
terms_nothing tokens n (part_terms ts) front after e k = n ts front after e k
terms_nothing tokens n _ front after e k = k

-- ---- places
pub place_found : (tokens rest : List Token) (p : RawPlace) → Longest Place tokens p rest → Longest (Spelled one_place) tokens (part_place p) rest
place_found tokens rest p h = record { written = h.written; splits = h.splits; spelled = h.spelled; longest = longest }
  where
    longest : (q : RulePart) (front after : List Token) → tokens ≡ front ++ after → Spelled one_place q front → length rest ≤ length after
    longest (part_place q) front after e k = h.longest q front after e k
    longest _ front after e k = absurd k

pub place_nothing : (tokens : List Token) → Nothing Place tokens → Nothing (Spelled one_place) tokens
place_nothing tokens n (part_place p) front after e k = n p front after e k
place_nothing tokens n _ front after e k = k

pub perhaps_found : (tokens rest : List Token) (p : RawPlace) → Longest Place tokens p rest → length rest < length tokens → Longest (Spelled perhaps_place) tokens (part_place p) rest
perhaps_found tokens rest p h l = record { written = h.written; splits = h.splits; spelled = h.spelled; longest = longest }
  where
    longest : (q : RulePart) (front after : List Token) → tokens ≡ front ++ after → Spelled perhaps_place q front → length rest ≤ length after
    longest (part_place q) front after e k = h.longest q front after e k
    longest part_no_place front after e k = omega (arith, l, ap length (e ∙ ap (λ us. us ++ after) k))
    longest _ front after e k = absurd k

pub perhaps_none : (tokens : List Token) → Nothing Place tokens → Longest (Spelled perhaps_place) tokens part_no_place tokens
perhaps_none tokens n = record { written = []; splits = refl; spelled = refl; longest = longest }
  where
    longest : (q : RulePart) (front after : List Token) → tokens ≡ front ++ after → Spelled perhaps_place q front → length tokens ≤ length after
    longest (part_place q) front after e k = absurd (n q front after e k)
    longest part_no_place front after e k = omega (arith, ap length (e ∙ ap (λ us. us ++ after) k))
    longest _ front after e k = absurd k

-- ---- names with types
pub typed_found : (tokens rest : List Token) (xs : List RawTyped) → Longest (Divided COMMA TypedName) tokens xs rest → Longest (Spelled typed_names) tokens (part_typed xs) rest
typed_found tokens rest xs h = record { written = h.written; splits = h.splits; spelled = h.spelled; longest = longest }
  where
    longest : (p : RulePart) (front after : List Token) → tokens ≡ front ++ after → Spelled typed_names p front → length rest ≤ length after
    longest (part_typed ys) front after e k = h.longest ys front after e k
    longest _ front after e k = absurd k

pub typed_nothing : (tokens : List Token) → Nothing (Divided COMMA TypedName) tokens → Nothing (Spelled typed_names) tokens
typed_nothing tokens n (part_typed xs) front after e k = n xs front after e k
typed_nothing tokens n _ front after e k = k

-- ---- laws
pub law_part_found : (tokens rest : List Token) (name : List ℕ) (ts : List RawTree) → Longest Lawful tokens (name, ts) rest → Longest (Spelled one_law) tokens (part_law name ts) rest
law_part_found tokens rest name ts h = record { written = h.written; splits = h.splits; spelled = h.spelled; longest = longest }
  where
    longest : (p : RulePart) (front after : List Token) → tokens ≡ front ++ after → Spelled one_law p front → length rest ≤ length after
    longest (part_law x us) front after e k = h.longest (x, us) front after e k
    longest _ front after e k = absurd k

pub law_nothing : (tokens : List Token) → Nothing Lawful tokens → Nothing (Spelled one_law) tokens
law_nothing tokens n (part_law x us) front after e k = n (x, us) front after e k
law_nothing tokens n _ front after e k = k

-- ---- certificates
pub certificate_part_found : (tokens rest : List Token) (ns : List ℕ) (ls : List RawLine) → Longest Certified tokens (ns, ls) rest → Longest (Spelled certificate) tokens (part_certificate ns ls) rest
certificate_part_found tokens rest ns ls h = record { written = h.written; splits = h.splits; spelled = h.spelled; longest = longest }
  where
    longest : (p : RulePart) (front after : List Token) → tokens ≡ front ++ after → Spelled certificate p front → length rest ≤ length after
    longest (part_certificate ms ks) front after e k = h.longest (ms, ks) front after e k
    longest _ front after e k = absurd k

pub certificate_nothing : (tokens : List Token) → Nothing Certified tokens → Nothing (Spelled certificate) tokens
certificate_nothing tokens n (part_certificate ms ks) front after e k = n (ms, ks) front after e k
certificate_nothing tokens n _ front after e k = k
