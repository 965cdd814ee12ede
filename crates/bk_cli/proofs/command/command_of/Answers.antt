use Rattle.std.proofs.Common.{◌≡◌, ◌≤◌, ◌<◌, ℕ, List, [], ◌∷◌, length, get_or, Bor, Option, Some, None, MatchOption, refl, sym, ◌∙◌, ap, subst, arith}
use Rattle.std.proofs.lemmas.Fmt.{decimal_injective}
use Rattle.clap.specs.Walk.{texts}
use Rattle.bk_cli.specs.declared.command.Command.{Command}
use Rattle.bk_cli.specs.Tasks.{Task, IsFuel, IsTaskOf}
use Rattle.bk_cli.specs.Asked.{task_of}
use Rattle.bk_cli.proofs.command.command_of.Goals as goal

-- a text is one number of steps at most
one_fuel : (text : List ℕ) (a b : ℕ) → IsFuel text a → IsFuel text b → a ≡ b
one_fuel text a b f g = decimal_injective a b (omega arith) (omega arith) (sym f.written ∙ g.written)

-- what is meant by these files under this fuel is meant by the words
meant : (result : Option Command) (text verb : List ℕ) (files given : List (List ℕ)) (fuel : ℕ) → files ≡ given → IsFuel text fuel →
    MatchOption result ((task : Task) → IsTaskOf verb given fuel task → ⊥) (λ command. IsTaskOf verb given fuel (task_of command)) →
    MatchOption result ((other : ℕ) → (task : Task) → IsFuel text other → IsTaskOf verb files other task → ⊥)
    (λ command. (other : ℕ) × IsFuel text other × IsTaskOf verb files other (task_of command))
meant None text verb files given fuel e f h = λ other task g t.
    h task (subst (λ n. IsTaskOf verb given n task) (one_fuel text other fuel g f) (subst (λ (xs : List (List ℕ)). IsTaskOf verb xs other task) e t))
meant (Some command) text verb files given fuel e f h = (fuel, f, subst (λ (xs : List (List ℕ)). IsTaskOf verb xs fuel (task_of command)) (sym e) h)

-- one text, and two
one_text : (names : List (Bor (List ℕ))) (d : Bor (List ℕ)) → 1 ≤ length names → length names < 2 → texts names ≡ (get_or names 0 d).now ∷ []
one_text [] d some few = absurd (omega arith)
one_text (a ∷ []) d some few = refl
one_text (a ∷ b ∷ names) d some few = absurd (omega arith)

two_texts : (names : List (Bor (List ℕ))) (d : Bor (List ℕ)) → 2 ≤ length names → length names < 3 → texts names ≡ (get_or names 0 d).now ∷ (get_or names 1 d).now ∷ []
two_texts [] d some few = absurd (omega arith)
two_texts (a ∷ []) d some few = absurd (omega arith)
two_texts (a ∷ b ∷ []) d some few = refl
two_texts (a ∷ b ∷ x ∷ names) d some few = absurd (omega arith)

pub returns-in-len1-clause-meant : goal.returns-in-len1-clause-meant
returns-in-len1-clause-meant c =
    meant c.of_project.result c.args.words.now.fuel.now c.args.words.now.verb.now (texts c.args.words.now.files.items) _ c.in_ok-fuel.fuel (sym (ap texts c.as_slice.ensures.value) ∙ one_text c.as_slice.result.now _ c.in-len1.len_at_least c.in-len1.len_below) c.in_ok-fuel.ensures (c.of_project.ensures.meant c.in_ok-fuel.fuel)

pub returns-in-len2-clause-meant : goal.returns-in-len2-clause-meant
returns-in-len2-clause-meant c =
    meant c.of_calls.result c.args.words.now.fuel.now c.args.words.now.verb.now (texts c.args.words.now.files.items) _ c.in_ok-fuel.fuel (sym (ap texts c.as_slice.ensures.value) ∙ two_texts c.as_slice.result.now _ c.in-len2.len_at_least c.in-len2.len_below) c.in_ok-fuel.ensures c.of_calls.ensures.meant
