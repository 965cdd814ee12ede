-- Some texts as tokens with the bytes where they stand: what they are written for, and where they are at fault.
use Rattle.std.specs.Prelude.{ℕ, pos, List, [], ◌∷◌, None, codes}
use Rattle.bk_form.specs.declared.token.Token.{Token}
use Rattle.bk_form.specs.declared.token.TokenKind.{TokenKind}
use Rattle.bk_form.specs.declared.token.TokenKind.TheVariants.{Name, Number, Sign, Word}
use Rattle.bk_ops.specs.declared.sign.TheConstants.{ASSIGN, SEMICOLON, PARALLEL, EQUAL, EQUIVALENT, AND, DOT}
use Rattle.bk_ops.specs.declared.word.TheConstants.{MACHINE, PROPERTIES, VARIABLES, ABSTRACT_VARIABLES}
use Rattle.bk_ops.specs.declared.word.TheConstants.{OPERATIONS, END, IF, THEN, ELSE, ELSIF, SKIP, BTRUE}
use Rattle.bk_raw.specs.Trees.RawTree.{raw, raw_number, no_trees, tree_and}
use Rattle.bk_raw.specs.Trees.SubTree.{SubTree, sub, sub_skip, sub_assign, sub_parallel, sub_sequence}
use Rattle.bk_raw.specs.Grammar.SubSpelling.{SpellsSub}
use Rattle.bk_raw.specs.Trees.ComponentTree.{RawComponent, clause_operations}
use Rattle.bk_raw.specs.Grammar.ComponentSpelling.{SpellsComponent}
use Rattle.bk_raw.specs.declared.component.ComponentKind.TheVariants.{Machine}
use Rattle.bk_raw.specs.declared.component.ClauseWord.TheVariants.{Operations}
use Rattle.bk_raw.specs.declared.script.RuleWord.TheVariants.{Hyp}
use Rattle.bk_raw.specs.declared.script.NamePart.TheVariants.{Letters, Numeral}
use Rattle.bk_raw.specs.Trees.ScriptTree.{RawScript, part_number}
use Rattle.bk_raw.specs.Grammar.ScriptSpelling.{SpellsScripts}
use Rattle.bk_raw.specs.Errors.Places.{IsComponentFaultAt, IsScriptFaultAt}

-- a token that stands from the one byte up to the other
abbrev pub token : ℕ → ℕ → TokenKind → Token
token start end kind = record { kind = kind; start = start; end = end }

-- ---- components
-- MACHINE A END END
abbrev pub end_twice : List Token
end_twice = token 0 7 (Word MACHINE) ∷ token 8 9 (Name (codes "A")) ∷ token 10 13 (Word END) ∷ token 14 17 (Word END) ∷ []

-- MACHINE A
abbrev pub no_end : List Token
no_end = token 0 7 (Word MACHINE) ∷ token 8 9 (Name (codes "A")) ∷ []

-- MACHINE A PROPERTIES p = 1 <=> q = 1 & r = 1 END
abbrev pub chained : List Token
chained = token 0 7 (Word MACHINE) ∷ token 8 9 (Name (codes "A")) ∷ token 10 20 (Word PROPERTIES) ∷
    token 21 22 (Name (codes "p")) ∷ token 23 24 (Sign EQUAL) ∷ token 25 26 (Number (pos 1)) ∷ token 27 30 (Sign EQUIVALENT) ∷
    token 31 32 (Name (codes "q")) ∷ token 33 34 (Sign EQUAL) ∷ token 35 36 (Number (pos 1)) ∷ token 37 38 (Sign AND) ∷
    token 39 40 (Name (codes "r")) ∷ token 41 42 (Sign EQUAL) ∷ token 43 44 (Number (pos 1)) ∷ token 45 48 (Word END) ∷ []

-- MACHINE A OPERATIONS f = skip ; g = END
abbrev pub half_operation : List Token
half_operation = token 0 7 (Word MACHINE) ∷ token 8 9 (Name (codes "A")) ∷ token 10 20 (Word OPERATIONS) ∷
    token 21 22 (Name (codes "f")) ∷ token 23 24 (Sign EQUAL) ∷ token 25 29 (Word SKIP) ∷ token 30 31 (Sign SEMICOLON) ∷
    token 32 33 (Name (codes "g")) ∷ token 34 35 (Sign EQUAL) ∷ token 36 39 (Word END) ∷ []

-- MACHINE A OPERATIONS f = skip ; skip END
abbrev pub list_body : List Token
list_body = token 0 7 (Word MACHINE) ∷ token 8 9 (Name (codes "A")) ∷ token 10 20 (Word OPERATIONS) ∷ token 21 22 (Name (codes "f")) ∷ token
    23 24 (Sign EQUAL) ∷ token 25 29 (Word SKIP) ∷ token 30 31 (Sign SEMICOLON) ∷ token 32 36 (Word SKIP) ∷ token 37 40 (Word END) ∷ []

-- MACHINE A PROPERTIES p = 1 & btrue END
abbrev pub printed : List Token
printed = token 0 7 (Word MACHINE) ∷ token 8 9 (Name (codes "A")) ∷ token 10 20 (Word PROPERTIES) ∷ token 21 22 (Name (codes "p")) ∷ token
    23 24 (Sign EQUAL) ∷ token 25 26 (Number (pos 1)) ∷ token 27 28 (Sign AND) ∷ token 29 34 (Word BTRUE) ∷ token 35 38 (Word END) ∷ []

-- MACHINE A VARIABLES x ABSTRACT_VARIABLES y END
abbrev pub twice : List Token
twice = token 0 7 (Word MACHINE) ∷ token 8 9 (Name (codes "A")) ∷ token 10 19 (Word VARIABLES) ∷ token 20 21 (Name (codes "x")) ∷
    token 22 40 (Word ABSTRACT_VARIABLES) ∷ token 41 42 (Name (codes "y")) ∷ token 43 46 (Word END) ∷ []

-- MACHINE A OPERATIONS f = skip END
abbrev pub one_operation : List Token
one_operation = token 0 7 (Word MACHINE) ∷ token 8 9 (Name (codes "A")) ∷ token 10 20 (Word OPERATIONS) ∷
    token 21 22 (Name (codes "f")) ∷ token 23 24 (Sign EQUAL) ∷ token 25 29 (Word SKIP) ∷ token 30 33 (Word END) ∷ []

-- ---- substitutions
-- skip ; skip ; skip
abbrev pub three : List Token
three = token 0 4 (Word SKIP) ∷ token 5 6 (Sign SEMICOLON) ∷ token 7 11 (Word SKIP) ∷
    token 12 13 (Sign SEMICOLON) ∷ token 14 18 (Word SKIP) ∷ []

-- x := 1 ; skip || skip
abbrev pub two_and : List Token
two_and = token 0 1 (Name (codes "x")) ∷ token 2 4 (Sign ASSIGN) ∷ token 5 6 (Number (pos 1)) ∷
    token 7 8 (Sign SEMICOLON) ∷ token 9 13 (Word SKIP) ∷ token 14 16 (Sign PARALLEL) ∷ token 17 21 (Word SKIP) ∷ []

-- IF p = 1 THEN skip ELSE skip ELSIF p = 1 THEN skip END
abbrev pub else_first : List Token
else_first = token 0 2 (Word IF) ∷ token 3 4 (Name (codes "p")) ∷ token 5 6 (Sign EQUAL) ∷
    token 7 8 (Number (pos 1)) ∷ token 9 13 (Word THEN) ∷ token 14 18 (Word SKIP) ∷ token 19 23 (Word ELSE) ∷
    token 24 28 (Word SKIP) ∷ token 29 34 (Word ELSIF) ∷ token 35 36 (Name (codes "p")) ∷ token 37 38 (Sign EQUAL) ∷
    token 39 40 (Number (pos 1)) ∷ token 41 45 (Word THEN) ∷ token 46 50 (Word SKIP) ∷ token 51 54 (Word END) ∷ []

-- ---- proof files
-- proof A.1 hyp end
abbrev pub no_number : List Token
no_number = token 0 5 (Name (codes "proof")) ∷ token 6 7 (Name (codes "A")) ∷ token 7 8 (Sign DOT) ∷
    token 8 9 (Number (pos 1)) ∷ token 10 13 (Name (codes "hyp")) ∷ token 14 17 (Name (codes "end")) ∷ []

-- proof A.1 same ; end
abbrev pub end_as_rule : List Token
end_as_rule = token 0 5 (Name (codes "proof")) ∷ token 6 7 (Name (codes "A")) ∷ token 7 8 (Sign DOT) ∷ token 8 9 (Number (pos 1)) ∷
    token 10 14 (Name (codes "same")) ∷ token 15 16 (Sign SEMICOLON) ∷ token 17 20 (Name (codes "end")) ∷ []

-- proof A.1 hyp 1 end
abbrev pub one_script : List Token
one_script = token 0 5 (Name (codes "proof")) ∷ token 6 7 (Name (codes "A")) ∷ token 7 8 (Sign DOT) ∷ token 8 9 (Number (pos 1)) ∷
    token 10 13 (Name (codes "hyp")) ∷ token 14 15 (Number (pos 1)) ∷ token 16 19 (Name (codes "end")) ∷ []

-- ---- trees
-- skip, from this byte on
abbrev pub skip_at : ℕ → SubTree
skip_at at = sub at sub_skip

-- the tree of two_and: to the left of ; the assignment, to the right of it skip || skip
abbrev pub two_and_tree : SubTree
two_and_tree =
    sub 0 (sub_sequence (sub 0 (sub_assign (record { text = codes "x"; at = 0 } ∷ []) (tree_and (raw 5 (raw_number (pos 1))) no_trees)))
    (sub 9 (sub_parallel (skip_at 9) (skip_at 17))))

-- the tree of one_operation
abbrev pub one_operation_tree : RawComponent
one_operation_tree = record {
  at = 0;
  kind = Machine;
  name = record { text = codes "A"; at = 8 };
  refines = None;
  clauses = record {
    word = Operations;
    at = 10;
    parts = clause_operations (record { outputs = []; name = record { text = codes "f"; at = 21 }; inputs = []; body = skip_at 25 } ∷ []);
  } ∷ [];
}

-- the tree of one_script
abbrev pub one_script_tree : RawScript
one_script_tree = record {
  at = 0;
  name_at = 6;
  name = Letters (codes "A") ∷ Numeral 1 ∷ [];
  rules = record { word = Hyp; at = 10; parts = part_number 1 ∷ [] } ∷ [];
}

-- ---- what is written
-- token lists, each with the tree that it is written for
pub record TextsAreWritten : Type 0 where
  -- || binds tighter than ;
  pub both_dividers : SpellsSub two_and_tree two_and
  -- ; joins to the left
  pub to_the_left : SpellsSub (sub 0 (sub_sequence (sub 0 (sub_sequence (skip_at 0) (skip_at 7))) (skip_at 14))) three
  pub operation : SpellsComponent one_operation_tree one_operation
  pub script : SpellsScripts (one_script_tree ∷ []) one_script

-- ---- what is refused: where the tokens are at fault, in bytes, they are written for no component and no proof file
-- token lists that are written for no tree, each with the byte of its fault
pub record TextsAreRefused : Type 0 where
  -- the second END
  pub second_end : IsComponentFaultAt 17 end_twice 14
  -- the end of the text
  pub missing_end : IsComponentFaultAt 9 no_end 9
  -- <=> takes no & on its right: the fault is at &
  pub loose_side : IsComponentFaultAt 48 chained 37
  -- an operation without a body: the fault is at the semicolon before it
  pub missing_body : IsComponentFaultAt 39 half_operation 30
  -- the semicolon in a body outside of blocks
  pub body_is_no_list : IsComponentFaultAt 40 list_body 30
  -- an addition of printed formulas: the fault is at the & before it
  pub addition : IsComponentFaultAt 38 printed 27
  -- VARIABLES and ABSTRACT_VARIABLES are one clause: the fault is at the second
  pub clause_twice : IsComponentFaultAt 46 twice 22
  -- hyp without a number: the fault is at the rule's word
  pub missing_number : IsScriptFaultAt 17 no_number 10
  -- end is no rule: the fault is at the semicolon before it
  pub end_is_no_rule : IsScriptFaultAt 20 end_as_rule 15
  -- ; does not join to the right
  pub not_to_the_right : SpellsSub (sub 0 (sub_sequence (skip_at 0) (sub 7 (sub_sequence (skip_at 7) (skip_at 14))))) three → ⊥
  -- no ELSIF follows ELSE
  pub else_is_last : (s : SubTree) → SpellsSub s else_first → ⊥
