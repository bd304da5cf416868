-- What a read puts behind the filled front is what the file loses with it.
use Rattle.std.proofs.Common.{◌≡◌, ℕ, ◌≤◌, ◌+◌, List, ◌++◌, length, take, None, Some, ap, sym, ◌∙◌, subst, append_assoc, rules, length-take-le}
use Rattle.std.specs.Prelude.{Option}
use Rattle.std.specs.Io.KnownBytes.{Consumes}
use Rattle.std.proofs.Math.Seq.{take-append-add}
use Rattle.std.proofs.lemmas.List.{take-append-le}
use Rattle.replay.proofs.read_full.Goals as goal

one_more_read : (a b c : Option (List ℕ)) (bs cs : List ℕ) → Consumes a b bs → Consumes b c cs → Consumes a c (bs ++ cs)
one_more_read None b c bs cs p q = tt
one_more_read (Some x) (Some y) (Some z) bs cs p q = p ∙ ap (λ (k : List ℕ). bs ++ k) q ∙ sym (append_assoc bs cs z)
one_more_read (Some x) None c bs cs p q = absurd p
one_more_read (Some x) (Some y) None bs cs p q = absurd q

-- ys lies behind the first f of xs
behind : (f n : ℕ) (xs ys post : List ℕ) → f ≤ length xs → n ≤ length ys → take (f + n) (take f xs ++ (ys ++ post)) ≡ take f xs ++ take n ys
behind f n xs ys post h k =
    ap (λ (m : ℕ). take (m + n) (take f xs ++ (ys ++ post))) (sym (length-take-le f xs h)) ∙ take-append-add (take f xs) (ys ++ post) n
    ∙ ap (λ (l : List ℕ). take f xs ++ l) (take-append-le n ys post k)

pub loop-done-preserved : goal.loop-done-preserved
loop-done-preserved g c =
    let l = c.loop-done in
    let read = c.in_ok-n.ensures in
    let more = one_more_read _ _ _ (take l.done l.out) (take c.in_ok-n.n c.read.new.buf) l.invariant.1 read.bytes.0 in
    (search rules, subst (Consumes _ _) (sym (behind l.done c.in_ok-n.n l.out c.read.new.buf _ l.invariant.0 read.bound.0)) more)
