-- Files that are fetched one after another.
use Rattle.std.proofs.Common.{ℕ, inl, inr, List, [], ◌∷◌, ◌++◌, map, drop, length, get_or, Bor, ◌<◌, ◌≤◌, ◌+◌, sym, subst}
use Rattle.std.proofs.lemmas.List.{append-nil, append_assoc, drop_more, drop_all}
use Rattle.bk_io.specs.Files.{Files}
use Rattle.bk_verbs.specs.declared.stop.Stop.{Stop}
use Rattle.bk_verbs.specs.Stops.{StopsAtFile, StopsAtFiles}
use Rattle.bk_verbs.specs.Project.{IsTold, AreTold}

-- of the names these are left, and these texts were told: what the rest tells or stops with is what all do
pub record Fetching (files : Files) (names rest texts : List (List ℕ)) : Type 0 where
  pub told : (more : List (List ℕ)) → AreTold files rest more → AreTold files names (texts ++ more)
  pub stops : (stop : Stop) → StopsAtFiles files rest stop → StopsAtFiles files names stop

pub one_fetched : (files : Files) (names rest texts : List (List ℕ)) (name text : List ℕ) → Fetching files names (name ∷ rest) texts → IsTold files name text → Fetching files names rest (texts ++ text ∷ [])
one_fetched files names rest texts name text h t = record {
  told = λ more k. subst (AreTold files names) (sym (append_assoc texts (text ∷ []) more)) (h.told (text ∷ more) (t, k));
  stops = λ stop k. h.stops stop (inr (text, t, k));
}

all_fetched : (files : Files) (names texts : List (List ℕ)) → Fetching files names [] texts → AreTold files names texts
all_fetched files names texts h = subst (AreTold files names) (append-nil texts) (h.told [] tt)

-- ---- over a slice of names
abbrev pub nows : List (Bor (List ℕ)) → List (List ℕ)
nows names = map (λ name. name.now) names

module _ (files : Files) (names : List (Bor (List ℕ))) (i : ℕ) (texts : List (List ℕ)) (h : Fetching files (nows names) (nows (drop i names)) texts) where
  here : (d : Bor (List ℕ)) → i < length names → Fetching files (nows names) (nows (get_or names i d ∷ drop (i + 1) names)) texts
  here d inside = subst (λ x. Fetching files (nows names) (nows x) texts) (drop_more names i d inside) h

  pub fetched_more : (d : Bor (List ℕ)) (text : List ℕ) → i < length names → IsTold files (get_or names i d).now text → Fetching files (nows names) (nows (drop (i + 1) names)) (texts ++ text ∷ [])
  fetched_more d text inside t = one_fetched files (nows names) (nows (drop (i + 1) names)) texts (get_or names i d).now text (here d inside) t

  pub fetched_stop : (d : Bor (List ℕ)) (stop : Stop) → i < length names → StopsAtFile files (get_or names i d).now stop → StopsAtFiles files (nows names) stop
  fetched_stop d stop inside k = (here d inside).stops stop (inl k)

  pub fetched_all : length names ≤ i → AreTold files (nows names) texts
  fetched_all end = all_fetched files (nows names) texts (subst (λ x. Fetching files (nows names) (nows x) texts) (drop_all i names end) h)

-- ---- names in front of others
pub stops_before : (files : Files) (names others : List (List ℕ)) (stop : Stop) → StopsAtFiles files names stop → StopsAtFiles files (names ++ others) stop
stops_before files [] others stop h = elim h [ ]
stops_before files (n ∷ ns) others stop (inl h) = inl h
stops_before files (n ∷ ns) others stop (inr h) = inr (h.0, h.1, stops_before files ns others stop h.2)

pub stops_behind : (files : Files) (names others texts : List (List ℕ)) (stop : Stop) → AreTold files names texts → StopsAtFiles files others stop → StopsAtFiles files (names ++ others) stop
stops_behind files [] others texts stop t h = h
stops_behind files (n ∷ ns) others [] stop t h = elim t [ ]
stops_behind files (n ∷ ns) others (x ∷ xs) stop t h = inr (x, t.0, stops_behind files ns others xs stop t.1 h)

pub both_told : (files : Files) (names others texts more : List (List ℕ)) → AreTold files names texts → AreTold files others more → AreTold files (names ++ others) (texts ++ more)
both_told files [] others [] more t u = u
both_told files [] others (x ∷ xs) more t u = elim t [ ]
both_told files (n ∷ ns) others [] more t u = elim t [ ]
both_told files (n ∷ ns) others (x ∷ xs) more t u = (t.0, both_told files ns others xs more t.1 u)
