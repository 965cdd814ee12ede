-- The scripts of a file, one behind another.
use Rattle.std.specs.Prelude.{◌≡◌, ℕ, ◌+◌, ◌-◌, ◌<◌, ◌≤◌, Bool, true, false, ◌||◌, max, List, [], ◌∷◌, ◌++◌, length, codes, refl}
use Rattle.std.proofs.Common.{inl, inr, arith, sym, ◌∙◌, ap, subst, append_assoc, append-nil, length-append}
use Rattle.bk_form.specs.declared.token.Token.{Token}
use Rattle.bk_form.specs.declared.token.TokenKind.TheVariants.{Name}
use Rattle.bk_raw.specs.Grammar.Pieces.{Just, ◌⌢◌}
use Rattle.bk_raw.specs.Errors.Places.{IsLongestWhole, IsScriptFault}
use Rattle.bk_raw.specs.Trees.ScriptTree.{RawScript, script_height}
use Rattle.bk_raw.specs.Grammar.ScriptSpelling.{OpensScript, Scripted, SpellsScripts, IsWholeScripts}
use Rattle.bk_raw.proofs.Steps.{Piece}
use Rattle.bk_raw.proofs.ScriptOne.{script-cut, end-finishes}
use Rattle.bk_raw.proofs.ScriptPlaces.{opens-within, scripts-tell-place}
use Rattle.bk_p_expr.specs.Fronts.{Longest, Nothing}
use Rattle.bk_p_proof.specs.Ahead.{Ahead, NotAhead}
use Rattle.bk_p_proof.specs.Kept.{IsScript, AreScripts, file_height, file_names}
use Rattle.bk_p_proof.specs.TypedNames.{script_names}
use Rattle.bk_p_proof.proofs.Cuts.{no_more}
use Rattle.bk_p_proof.proofs.Rows.{map_last}
use Rattle.bk_p_proof.proofs.PartsRead.{names_kept}
use Rattle.bk_p_proof.proofs.ScriptRead.{Only, max_zero, max_max, both_low, first_high, second_high}

-- ---- what is kept of scripts
highest_last : (ss : List RawScript) (s : RawScript) → file_height (ss ++ s ∷ []) ≡ max (file_height ss) (script_height s)
highest_last [] s = max_zero (script_height s)
highest_last (r ∷ ss) s = max_max (script_height r) (file_height ss) (script_height s) (file_height (ss ++ s ∷ [])) (highest_last ss s)

names_on : (ss rs : List RawScript) (s r : RawScript) → file_names rs ≡ file_names ss → script_names r ≡ script_names s → file_names (rs ++ r ∷ []) ≡ file_names (ss ++ s ∷ [])
names_on ss rs s r e f = map_last script_names rs r ∙ (λ i. e i ++ f i ∷ []) ∙ sym (map_last script_names ss s)

scripts_kept : (ss rs : List RawScript) (s r : RawScript) (b c : Bool) → AreScripts ss rs b → IsScript s r c → AreScripts (ss ++ s ∷ []) (rs ++ r ∷ []) (b || c)
scripts_kept ss rs s r false false h g = ((λ i. h.0 i ++ g.0 i ∷ []), both_low (file_height ss) (script_height s) (file_height (ss ++ s ∷ [])) (highest_last ss s) h.1 g.1)
scripts_kept ss rs s r false true h g = (names_on ss rs s r (names_kept file_height file_names ss rs false h) g.0, second_high (file_height ss) (script_height s) (file_height (ss ++ s ∷ [])) (highest_last ss s) g.1)
scripts_kept ss rs s r true c h g = (names_on ss rs s r h.0 (names_kept script_height script_names s r c g), first_high (file_height ss) (script_height s) (file_height (ss ++ s ∷ [])) (highest_last ss s) h.1)

-- ---- scripts
row_last : (ss : List RawScript) (s : RawScript) (a b : List Token) → SpellsScripts ss a → Scripted s b → SpellsScripts (ss ++ s ∷ []) (a ++ b)
row_last [] s a b h k = (b, [], ap (λ us. us ++ b) h ∙ sym (append-nil b), k, refl)
row_last (r ∷ ss) s a b h k = (h.0, h.1 ++ b, ap (λ us. us ++ b) h.2 ∙ append_assoc h.0 h.1 b, h.3, row_last ss s h.1 b h.4 k)

-- these are read, of which this is kept
pub record ScriptsSoFar (tokens : List Token) (kept : List RawScript) (is_high : Bool) (rest : List Token) : Type 0 where
  pub scripts : List RawScript
  pub done : List Token
  pub splits : tokens ≡ done ++ rest
  pub spelled : SpellsScripts scripts done
  pub kept_of : AreScripts scripts kept is_high

pub scripts_go_on : (tokens rest behind after : List Token) (kept : List RawScript) (s r : RawScript) (b c : Bool) → ScriptsSoFar tokens kept b rest → Longest OpensScript rest s behind → IsScript s r c → Ahead (Name (codes "end")) behind after → ScriptsSoFar tokens (kept ++ r ∷ []) (b || c) after
scripts_go_on tokens rest behind after kept s r b c f h k a = record {
  scripts = f.scripts ++ s ∷ [];
  done = f.done ++ (h.written ++ a.0 ∷ []);
  splits = f.splits ∙ ap (λ us. f.done ++ us) (h.splits ∙ ap (λ us. h.written ++ us) a.1 ∙ sym (append_assoc h.written (a.0 ∷ []) after)) ∙ sym (append_assoc f.done (h.written ++ a.0 ∷ []) after);
  spelled = row_last f.scripts s f.done (h.written ++ a.0 ∷ []) f.spelled (h.written, a.0 ∷ [], refl, h.spelled, (a.0, refl, a.2));
  kept_of = scripts_kept f.scripts kept s r b c f.kept_of k;
}

-- ---- no scripts
abbrev NoScript : List Token → Type 0
NoScript us = (s : RawScript) (a q : List Token) → us ≡ a ++ q → Scripted s a → ⊥

nothing_left : (us : List Token) → length us ≤ 0 → us ≡ []
nothing_left [] l = refl
nothing_left (u ∷ us) l = absurd (omega (arith, l))

-- where scripts and what stands behind them are scripts, and no script is in front there, nothing stands there
rows_end : (ss rs : List RawScript) (d us : List Token) → SpellsScripts ss d → SpellsScripts rs (d ++ us) → NoScript us → us ≡ []
rows_end ss [] d us h k n = nothing_left us (omega (arith, ap length k, length-append d us))
rows_end [] (r ∷ rs) d us h k n = absurd (n r k.0 k.1 (ap (λ ts. ts ++ us) (sym h) ∙ k.2) k.3)
rows_end (s ∷ ss) (r ∷ rs) d us h k n =
    let c = script-cut s r (Only (h.1 ++ us)) (Only k.1) (d ++ us) (h.0, h.1 ++ us, ap (λ ts. ts ++ us) h.2 ∙ append_assoc h.0 h.1 us, h.3, refl) (k.0, k.1, k.2, k.3, refl) in
    let b = c.1 in
    rows_end ss rs h.1 us h.4 (subst (SpellsScripts rs) (sym b.2 ∙ b.1) k.4) n

fault_at : (tokens rest : List Token) (ss : List RawScript) (done : List Token) (place : ℕ) → tokens ≡ done ++ rest → SpellsScripts ss done → NoScript rest → 0 < length rest → IsLongestWhole IsWholeScripts tokens place → IsScriptFault tokens place
fault_at tokens rest ss done place e h n l w = record {
  none = λ rs k. let z = rows_end ss rs done rest h (subst (SpellsScripts rs) e k) n in omega (arith, l, ap length z);
  first = w;
}

-- no script is opened
pub fault_unopened : (tokens rest : List Token) (kept : List RawScript) (b : Bool) (place : ℕ) → ScriptsSoFar tokens kept b rest → 0 < length rest → Nothing OpensScript rest → place + length rest ≡ length tokens → IsScriptFault tokens place
fault_unopened tokens rest kept b place f l n p = fault_at tokens rest f.scripts f.done place f.splits f.spelled none l (subst (IsLongestWhole IsWholeScripts tokens) there (scripts-tell-place f.scripts tokens f.done rest [] rest f.splits f.spelled none refl (inl refl) (λ s a q e o. absurd (n s a q e o))))
  where
    none : NoScript rest
    none s a q e k = n s k.0 (k.1 ++ q) (e ∙ ap (λ us. us ++ q) k.2 ∙ append_assoc k.0 k.1 q) k.3

    there : length f.done + 0 ≡ place
    there = omega (arith, p, ap length f.splits, length-append f.done rest)

-- a script is opened, but does not end
pub fault_unended : (tokens rest behind : List Token) (kept : List RawScript) (s : RawScript) (b : Bool) (place : ℕ) → ScriptsSoFar tokens kept b rest → 0 < length rest → Longest OpensScript rest s behind → NotAhead (Name (codes "end")) behind → place + length behind ≡ length tokens → IsScriptFault tokens place
fault_unended tokens rest behind kept s b place f l h n p = fault_at tokens rest f.scripts f.done place f.splits f.spelled none l (subst (IsLongestWhole IsWholeScripts tokens) there (scripts-tell-place f.scripts tokens f.done rest h.written behind f.splits f.spelled none h.splits (inr (s, h.spelled)) most))
  where
    most : (r : RawScript) (a q : List Token) → rest ≡ a ++ q → OpensScript r a → length a ≤ length h.written
    most r a q e o = omega (arith, h.longest r a q e o, ap length e, ap length h.splits, length-append a q, length-append h.written behind)

    End : Piece
    End = Just (Name (codes "end"))

    none : NoScript rest
    none r a q e k =
        let i : rest ≡ k.0 ++ (k.1 ++ q) = e ∙ ap (λ us. us ++ q) k.2 ∙ append_assoc k.0 k.1 q in
        let w = opens-within r s (End ⌢ Only q) (Only behind) rest (end-finishes (Only q)) (k.0, k.1 ++ q, i, k.3, (k.1, q, refl, k.4, refl)) (h.written, behind, h.splits, h.spelled, refl) in
        let v = w.2 in
        let d = v.3 in
        let m = k.4 in
        let z : w.0 ≡ [] = no_more w.0 behind w.1 (sym w.3) (omega (arith, h.longest r k.0 (k.1 ++ q) i k.3, ap length (ap (λ us. us ++ q) m.1), ap length (v.2 ∙ ap (λ us. us ++ v.1) d.1), ap length v.4)) in
        n d.0 v.1 (sym w.3 ∙ ap (λ us. us ++ w.1) z ∙ v.2 ∙ ap (λ us. us ++ v.1) d.1) d.2

    there : length f.done + length h.written ≡ place
    there = omega (arith, p, ap length f.splits, length-append f.done rest, ap length h.splits, length-append h.written behind)

-- a further script, where one of those before was too high, and where none was
pub scripts_go_on_high : (tokens rest behind after : List Token) (kept : List RawScript) (s r : RawScript) (b c : Bool) → b ≡ true → ScriptsSoFar tokens kept b rest → Longest OpensScript rest s behind → IsScript s r c → Ahead (Name (codes "end")) behind after → ScriptsSoFar tokens (kept ++ r ∷ []) b after
scripts_go_on_high tokens rest behind after kept s r b c e f h k a = subst (λ d. ScriptsSoFar tokens (kept ++ r ∷ []) d after) (ap (λ d. d || c) e ∙ sym e) (scripts_go_on tokens rest behind after kept s r b c f h k a)

pub scripts_go_on_low : (tokens rest behind after : List Token) (kept : List RawScript) (s r : RawScript) (b c : Bool) → b ≡ false → ScriptsSoFar tokens kept b rest → Longest OpensScript rest s behind → IsScript s r c → Ahead (Name (codes "end")) behind after → ScriptsSoFar tokens (kept ++ r ∷ []) c after
scripts_go_on_low tokens rest behind after kept s r b c e f h k a = subst (λ d. ScriptsSoFar tokens (kept ++ r ∷ []) d after) (ap (λ d. d || c) e) (scripts_go_on tokens rest behind after kept s r b c f h k a)

-- ---- the place in front of which all but the rest stand
pub unopened_at : (tokens rest : List Token) (kept : List RawScript) (b : Bool) → ScriptsSoFar tokens kept b rest → 0 < length rest → Nothing OpensScript rest → IsScriptFault tokens (length tokens - length rest)
unopened_at tokens rest kept b f l n = fault_unopened tokens rest kept b (length tokens - length rest) f l n (omega (arith, ap length f.splits, length-append f.done rest))

pub unended_at : (tokens rest behind : List Token) (kept : List RawScript) (s : RawScript) (b : Bool) → ScriptsSoFar tokens kept b rest → length behind < length rest → Longest OpensScript rest s behind → NotAhead (Name (codes "end")) behind → IsScriptFault tokens (length tokens - length behind)
unended_at tokens rest behind kept s b f l h n = fault_unended tokens rest behind kept s b (length tokens - length behind) f (omega (arith, l)) h n (omega (arith, l, ap length f.splits, length-append f.done rest))
