use Rattle.std.proofs.Common.{◌≡◌, ◌≤◌, ◌<◌, ℕ, List, [], ◌∷◌, length, get_or, Bor, Option, MatchOption, refl, sym, subst, arith}
use Rattle.clap.specs.Walk.{texts}
use Rattle.bk_proof_words.specs.Tasks.{Chosen, IsVerbTask, chosen_by}
use Rattle.bk_proof_words.specs.declared.task.Task.{Task}
use Rattle.bk_proof_words.proofs.verbs.verb_task.Goals as goal

-- one text, and two
one_text : (names : List (Bor (List ℕ))) (d : Bor (List ℕ)) → 1 ≤ length names → length names < 2 → texts names ≡ (get_or names 0 d).now ∷ []
one_text [] d some few = absurd (omega arith)
one_text (a ∷ []) d some few = refl
one_text (a ∷ b ∷ names) d some few = absurd (omega arith)

two_texts : (names : List (Bor (List ℕ))) (d : Bor (List ℕ)) → 2 ≤ length names → length names < 3 → texts names ≡ (get_or names 0 d).now ∷ (get_or names 1 d).now ∷ []
two_texts [] d some few = absurd (omega arith)
two_texts (a ∷ []) d some few = absurd (omega arith)
two_texts (a ∷ b ∷ []) d some few = refl
two_texts (a ∷ b ∷ x ∷ names) d some few = absurd (omega arith)

-- what is meant by these files is meant by those
meant : (result : Option Task) (verb : List ℕ) (files given : List (List ℕ)) (chosen : Chosen) → files ≡ given →
    MatchOption result ((task : Task) → IsVerbTask verb given chosen task → ⊥) (IsVerbTask verb given chosen) →
    MatchOption result ((task : Task) → IsVerbTask verb files chosen task → ⊥) (IsVerbTask verb files chosen)
meant result verb files given chosen e h = subst (λ x. MatchOption result ((task : Task) → IsVerbTask verb x chosen task → ⊥) (IsVerbTask verb x chosen)) (sym e) h

pub returns-in-len1 : goal.returns-in-len1
returns-in-len1 c =
    meant c.of_one.result c.args.verb.now (texts c.args.files.now) _ (chosen_by c.args.options.now) (one_text c.args.files.now _ c.in-len1.len_at_least c.in-len1.len_below) c.of_one.ensures

pub returns-in-len2 : goal.returns-in-len2
returns-in-len2 c =
    meant c.of_two.result c.args.verb.now (texts c.args.files.now) _ (chosen_by c.args.options.now) (two_texts c.args.files.now _ c.in-len2.len_at_least c.in-len2.len_below) c.of_two.ensures
