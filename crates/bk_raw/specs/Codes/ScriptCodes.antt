-- Scripts of proof as pairs and lists, by which a proof tells them apart.
use Rattle.std.specs.Prelude.{◌≡◌, ℕ, zero, suc, ℤ, List, [], ◌∷◌, refl}
use Rattle.std.proofs.Common.{get_or}
use Rattle.std.specs.Coded.{Coded, code_by, coded×, coded_ℕ, coded_ℤ, coded_list}
use Rattle.bk_raw.specs.Trees.RawTree.{RawTree}
use Rattle.bk_raw.specs.Codes.RawCodes.{coded_name, coded_tree}
use Rattle.bk_raw.specs.Trees.WrittenType.{WrittenType, coded_written_type}
use Rattle.bk_raw.specs.Trees.ScriptTree.{RawPlace, in_goal, in_hypothesis, RawLine, multiples, quotient}
use Rattle.bk_raw.specs.Trees.ScriptTree.{RulePart, part_number, part_term, part_terms, part_place, part_no_place}
use Rattle.bk_raw.specs.Trees.ScriptTree.{part_typed, part_law, part_certificate, RawRule, RawScript}
use Rattle.bk_raw.specs.declared.term.RawName.{RawName}
use Rattle.bk_raw.specs.declared.script.RuleWord.{RuleWord}
use Rattle.bk_raw.specs.declared.script.RuleWord.TheVariants.{Hyp, True, Same, Eval, False, Absurd, And, Iff, Imp, Not, Left}
use Rattle.bk_raw.specs.declared.script.RuleWord.TheVariants.{Right, Or, Contra, Fix, UseTerms, Split, Cases, Apply, Inst}
use Rattle.bk_raw.specs.declared.script.RuleWord.TheVariants.{OpenSome, Cut, Case, Drop, Eq, Qe, Law, Wal, TypeOf, Neg, Mem}
use Rattle.bk_raw.specs.declared.script.RuleWord.TheVariants.{Val, Ext, Sub, Ex, Pair, Elems, Interval, Induct, Poly, Lin}
use Rattle.bk_raw.specs.declared.script.RawMultiple.{RawMultiple}
use Rattle.bk_raw.specs.declared.script.RawTyped.{RawTyped}
use Rattle.bk_raw.specs.declared.script.NamePart.{NamePart}
use Rattle.bk_raw.specs.declared.script.NamePart.TheVariants.{Letters, Numeral}

-- ---- words
-- the words of rules
abbrev pub rule_words : List RuleWord
rule_words = Hyp ∷ True ∷ Same ∷ Eval ∷ False ∷ Absurd ∷ And ∷ Iff ∷ Imp ∷ Not ∷ Left ∷ Right ∷ Or ∷
    Contra ∷ Fix ∷ UseTerms ∷ Split ∷ Cases ∷ Apply ∷ Inst ∷ OpenSome ∷ Cut ∷ Case ∷ Drop ∷ Eq ∷ Qe ∷ Law ∷
    Wal ∷ TypeOf ∷ Neg ∷ Mem ∷ Val ∷ Ext ∷ Sub ∷ Ex ∷ Pair ∷ Elems ∷ Interval ∷ Induct ∷ Poly ∷ Lin ∷ []

-- the place of a word among them
abbrev pub rule_code : RuleWord → ℕ
rule_code Hyp = 0
rule_code True = 1
rule_code Same = 2
rule_code Eval = 3
rule_code False = 4
rule_code Absurd = 5
rule_code And = 6
rule_code Iff = 7
rule_code Imp = 8
rule_code Not = 9
rule_code Left = 10
rule_code Right = 11
rule_code Or = 12
rule_code Contra = 13
rule_code Fix = 14
rule_code UseTerms = 15
rule_code Split = 16
rule_code Cases = 17
rule_code Apply = 18
rule_code Inst = 19
rule_code OpenSome = 20
rule_code Cut = 21
rule_code Case = 22
rule_code Drop = 23
rule_code Eq = 24
rule_code Qe = 25
rule_code Law = 26
rule_code Wal = 27
rule_code TypeOf = 28
rule_code Neg = 29
rule_code Mem = 30
rule_code Val = 31
rule_code Ext = 32
rule_code Sub = 33
rule_code Ex = 34
rule_code Pair = 35
rule_code Elems = 36
rule_code Interval = 37
rule_code Induct = 38
rule_code Poly = 39
rule_code Lin = 40

-- a word is told by it
pub rule_back-code : (w : RuleWord) → get_or rule_words (rule_code w) Hyp ≡ w
rule_back-code Hyp = refl
rule_back-code True = refl
rule_back-code Same = refl
rule_back-code Eval = refl
rule_back-code False = refl
rule_back-code Absurd = refl
rule_back-code And = refl
rule_back-code Iff = refl
rule_back-code Imp = refl
rule_back-code Not = refl
rule_back-code Left = refl
rule_back-code Right = refl
rule_back-code Or = refl
rule_back-code Contra = refl
rule_back-code Fix = refl
rule_back-code UseTerms = refl
rule_back-code Split = refl
rule_back-code Cases = refl
rule_back-code Apply = refl
rule_back-code Inst = refl
rule_back-code OpenSome = refl
rule_back-code Cut = refl
rule_back-code Case = refl
rule_back-code Drop = refl
rule_back-code Eq = refl
rule_back-code Qe = refl
rule_back-code Law = refl
rule_back-code Wal = refl
rule_back-code TypeOf = refl
rule_back-code Neg = refl
rule_back-code Mem = refl
rule_back-code Val = refl
rule_back-code Ext = refl
rule_back-code Sub = refl
rule_back-code Ex = refl
rule_back-code Pair = refl
rule_back-code Elems = refl
rule_back-code Interval = refl
rule_back-code Induct = refl
rule_back-code Poly = refl
rule_back-code Lin = refl

-- words of rules are told apart by their places
abbrev pub coded_rule_word : Coded RuleWord
coded_rule_word = code_by ℕ coded_ℕ rule_code (λ n. get_or rule_words n Hyp) rule_back-code

-- ---- places and lines
-- 0 and the path, or the hypothesis's successor and the path
abbrev place_numbers : RawPlace → List ℕ
place_numbers (in_goal path) = 0 ∷ path
place_numbers (in_hypothesis i path) = suc i ∷ path

-- the place that has these numbers
abbrev place_back : List ℕ → RawPlace
place_back [] = in_goal []
place_back (zero ∷ path) = in_goal path
place_back (suc i ∷ path) = in_hypothesis i path

-- a multiple by its multiplier and its fact
abbrev pub coded_multiple : Coded RawMultiple
coded_multiple =
    code_by (ℤ × ℕ) (coded× coded_ℤ coded_ℕ) (λ m. (m.multiplier, m.fact)) (λ p. record { multiplier = p.0; fact = p.1 }) (λ _. refl)

-- a quotient's two numbers, or a sum's multiples
abbrev line_lists : RawLine → List ℕ × List RawMultiple
line_lists (multiples ms) = ([], ms)
line_lists (quotient k g) = (k ∷ g ∷ [], [])

-- the line of these lists
abbrev line_back : List ℕ × List RawMultiple → RawLine
line_back (k ∷ g ∷ ns, ms) = quotient k g
line_back (_, ms) = multiples ms

-- lines are told apart by them
abbrev pub coded_line : Coded RawLine
coded_line = code_by (List ℕ × List RawMultiple) (coded× (coded_list coded_ℕ) (coded_list coded_multiple))
    line_lists line_back (elim [ multiples ms ↦ refl | quotient k g ↦ refl ])

-- a name with its type
abbrev pub coded_typed : Coded RawTyped
coded_typed = code_by (RawName × WrittenType) (coded× coded_name coded_written_type)
    (λ x. (x.name, x.ty)) (λ p. record { name = p.0; ty = p.1 }) (λ _. refl)

-- ---- parts
-- which part it is, its numbers or letters, its terms, its typed names and its lines
abbrev Lists : Type 0
Lists = ℕ × (List ℕ × (List RawTree × (List RawTyped × List RawLine)))

-- the lists of a part of a rule
abbrev part_lists : RulePart → Lists
part_lists (part_number n) = (0, (n ∷ [], ([], ([], []))))
part_lists (part_term t) = (1, ([], (t ∷ [], ([], []))))
part_lists (part_terms ts) = (2, ([], (ts, ([], []))))
part_lists (part_place p) = (3, (place_numbers p, ([], ([], []))))
part_lists part_no_place = (4, ([], ([], ([], []))))
part_lists (part_typed xs) = (5, ([], ([], (xs, []))))
part_lists (part_law name picks) = (6, (name, (picks, ([], []))))
part_lists (part_certificate facts lines) = (7, (facts, ([], ([], lines))))

-- the part of these lists
abbrev part_back : Lists → RulePart
part_back (zero, (n ∷ _, _)) = part_number n
part_back (suc zero, (_, (t ∷ _, _))) = part_term t
part_back (suc (suc zero), (_, (ts, _))) = part_terms ts
part_back (suc (suc (suc zero)), (ns, _)) = part_place (place_back ns)
part_back (suc (suc (suc (suc zero))), _) = part_no_place
part_back (suc (suc (suc (suc (suc zero)))), (_, (_, (xs, _)))) = part_typed xs
part_back (suc (suc (suc (suc (suc (suc zero))))), (name, (picks, _))) = part_law name picks
part_back (suc (suc (suc (suc (suc (suc (suc n)))))), (facts, (_, (_, lines)))) = part_certificate facts lines
part_back _ = part_no_place

-- the lists of a part give the part back
pub part_back-lists : (p : RulePart) → part_back (part_lists p) ≡ p
part_back-lists (part_number n) = refl
part_back-lists (part_term t) = refl
part_back-lists (part_terms ts) = refl
part_back-lists (part_place (in_goal path)) = refl
part_back-lists (part_place (in_hypothesis i path)) = refl
part_back-lists part_no_place = refl
part_back-lists (part_typed xs) = refl
part_back-lists (part_law name picks) = refl
part_back-lists (part_certificate facts lines) = refl

-- parts of rules are told apart by their lists
abbrev pub coded_part : Coded RulePart
coded_part = code_by Lists (coded× coded_ℕ (coded× (coded_list coded_ℕ)
    (coded× (coded_list coded_tree) (coded× (coded_list coded_typed) (coded_list coded_line))))) part_lists part_back part_back-lists

-- ---- rules and scripts
-- a rule by its word, its byte and its parts
abbrev pub coded_rule : Coded RawRule
coded_rule = code_by (RuleWord × (ℕ × List RulePart)) (coded× coded_rule_word (coded× coded_ℕ (coded_list coded_part)))
    (λ r. (r.word, (r.at, r.parts))) (λ p. record { word = p.0; at = p.1.0; parts = p.1.1 }) (λ _. refl)

-- letters, or a number by its successor
abbrev name_numbers : NamePart → ℕ × List ℕ
name_numbers (Letters text) = (0, text)
name_numbers (Numeral n) = (suc n, [])

-- the part of a name that has these numbers
abbrev name_back : ℕ × List ℕ → NamePart
name_back (zero, text) = Letters text
name_back (suc n, text) = Numeral n

-- parts of names are told apart by them
abbrev pub coded_name_part : Coded NamePart
coded_name_part =
    code_by (ℕ × List ℕ) (coded× coded_ℕ (coded_list coded_ℕ)) name_numbers name_back (elim [ Letters text ↦ refl | Numeral n ↦ refl ])

-- a script by its bytes, its name and its rules
abbrev pub coded_script : Coded RawScript
coded_script = code_by (ℕ × (ℕ × (List NamePart × List RawRule)))
    (coded× coded_ℕ (coded× coded_ℕ (coded× (coded_list coded_name_part) (coded_list coded_rule))))
    (λ s. (s.at, (s.name_at, (s.name, s.rules)))) (λ p. record { at = p.0; name_at = p.1.0; name = p.1.1.0; rules = p.1.1.1 }) (λ _. refl)
