-- The flags taken of a list of calls, and the samples that its evaluations read for parity
-- (01-scope.md, "The plain session of demand 3", "Start search"). Definitions only.
use Rattle.std.specs.Prelude.{ℕ, ◌+◌, ◌-◌, ◌/◌, Bool, true, false, cond, List, [], ◌∷◌, ◌++◌, length, take, drop, leb, Float}
use Rattle.limits.specs.Refusals.{is_allowed}
use Rattle.sync_start.specs.Evaluate.{parity_reads}
use Rattle.plain.specs.declared.Phase.{Phase}
use Rattle.plain.specs.declared.Phase.TheVariants.{Searching, Collecting, Reported, Unfound, CutShort}
use Rattle.plain.specs.Plain.{Plain, window_of, ended_phase, due_at, joined, step}
use Rattle.plain.specs.Calls.{Call, feed, read, feed_refusal, after}

-- ---- the flags taken: the pieces of the feeds that were not refused, joined, up to the end that the session reaches

unfoldable pub accepted_flags : Plain → List Call → List ℕ
accepted_flags p [] = []
accepted_flags p (feed memory flags samples ∷ cs) =
    cond (is_allowed (feed_refusal p.setup p.phase memory flags samples)) flags [] ++ accepted_flags (after p (feed memory flags samples)) cs
accepted_flags p (read ∷ cs) = accepted_flags p cs

unfoldable pub accepted_samples : Plain → List Call → List Float
accepted_samples p [] = []
accepted_samples p (feed memory flags samples ∷ cs) =
    cond (is_allowed (feed_refusal p.setup p.phase memory flags samples)) samples [] ++ accepted_samples (after p (feed memory flags samples)) cs
accepted_samples p (read ∷ cs) = accepted_samples p cs

unfoldable pub to_the_end : Plain → List ℕ → List Float → List ℕ
unfolding step
to_the_end p [] ys = []
to_the_end p (x ∷ xs) ys = cond (ended_phase p.phase) [] (x ∷ to_the_end (step p x (take 4 ys)) xs (drop 4 ys))

abbrev pub flags_taken : Plain → List Call → List ℕ
flags_taken p cs = to_the_end p (accepted_flags p cs) (accepted_samples p cs)

-- ---- the numbers of the samples that evaluations read for parity

-- by the evaluation that p makes, if one is due
abbrev pub reads_by : Phase → Plain → List ℕ
reads_by Searching p =
    cond (due_at p.setup.mode (length p.flags))
    (parity_reads p.setup.mode ((length p.flags - window_of p.setup.mode) / 64) p.flags p.streak)
    []
reads_by (Collecting s) p = []
reads_by (Reported s r) p = []
reads_by Unfound p = []
reads_by (CutShort s) p = []

-- by those of a piece
unfoldable pub reads_of : Plain → List ℕ → List Float → List ℕ
unfolding step
reads_of p [] ys = []
reads_of p (x ∷ xs) ys =
    cond (ended_phase p.phase) [] (reads_by p.phase (joined p (x ∷ []) (take 4 ys))) ++ reads_of (step p x (take 4 ys)) xs (drop 4 ys)

-- by those of a list
unfoldable pub list_reads : Plain → List Call → List ℕ
unfolding reads_of
list_reads p [] = []
list_reads p (feed memory flags samples ∷ cs) =
    cond (is_allowed (feed_refusal p.setup p.phase memory flags samples)) (reads_of p flags samples) [] ++ list_reads (after p (feed memory flags samples)) cs
list_reads p (read ∷ cs) = list_reads p cs

-- ---- the flags searched, and the evaluations owed to them

abbrev pub searching : Phase → Bool
searching Searching = true
searching (Collecting s) = false
searching (Reported s r) = false
searching Unfound = false
searching (CutShort s) = false

-- how many flags of a piece are taken while the session searches
unfoldable pub searched_of : Plain → List ℕ → List Float → ℕ
unfolding step
searched_of p [] ys = 0
searched_of p (x ∷ xs) ys = cond (searching p.phase) 1 0 + searched_of (step p x (take 4 ys)) xs (drop 4 ys)

-- how many j have w + 64j at most n
unfoldable pub owed : ℕ → ℕ → ℕ
owed mode n = cond (leb (window_of mode) n) ((n - window_of mode) / 64 + 1) 0
