-- A card that is read writes back as the same bytes, a card that is written reads back as the same card, and the writer takes exactly the cards that some bytes read as. Assumes nothing.
use mathlib.Core.Path.{◌≡◌, refl, sym, ap, ◌∙◌}
use mathlib.Core.Bool.{Bool, true, false, not, ◌&&◌, false≢true}
use mathlib.Core.List.{List, [], ◌∷◌, append_assoc, append-nil}
use Prim.Native.Nat.{ℕ, ◌*◌, ◌^◌, ◌<◌}
use lib.Dec.{T, eqb, lit<}
use lib.ListN.{length, get_or, length-append}
use lib.Signed.{mag}
use lib.Ieee.{binary32, binary64, top, fits, to_bits}
use lib.Ieee.Bits.{of_bits-to_bits, of_bits-fits, to_bits-lt, to_bits-of_bits}
use borrow.Author.Tests.{eqb-true, eq-eqb, not-false}
use Rattle.std.specs.Prelude.{Result, Ok, Err}
use Rattle.std.specs.Result.{result_and}
use Rattle.limits.specs.declared.Refusal.{Refusal}
use Rattle.limits.specs.declared.Refusal.TheVariants as why
use Rattle.limits.proofs.Causes as causes
use Rattle.words.specs.Words.{number_at, bits_of}
use Rattle.words.proofs.RoundTrip.{Bytes, signed_bits, bits_signed, signed_small, bits_small}
use Rattle.words.proofs.Packing.{packed, numbers_from, total, packed_bytes, number_at_lt, pack_numbers, numbers_pack, Fit, none, one}
use Rattle.card.proofs.NoNan.{numbers_in}
use Rattle.card.proofs.Parts.{length_head, length_counts, length_report}
use Rattle.card.specs.declared.Card.{Card}
use Rattle.card.specs.Card.{mark, head_bytes, count_bytes, report_bytes, card_bytes, marked, card_of, wrong, write_answer, buffer_after, read_refusal, read_answer}

-- ---- the fields as numbers

widths : List ℕ
widths = 3 ∷ 2 ∷ 1 ∷ 1 ∷ 8 ∷ 8 ∷ 8 ∷ 4 ∷ 8 ∷ 1 ∷ 8 ∷ 4 ∷ []

numbers : Card → List ℕ
numbers c =
    mark
    ∷ 1
    ∷ c.mode
    ∷ c.end
    ∷ c.taken
    ∷ c.evaluations
    ∷ c.start
    ∷ to_bits binary32 c.start_quality
    ∷ to_bits binary64 c.rate
    ∷ c.slant
    ∷ bits_of c.skip
    ∷ to_bits binary32 c.quality
    ∷ []

-- the numbers at the fields' places
placed : List ℕ → List ℕ
unfolding numbers_from widths
placed bs = numbers_from 0 widths bs

-- the bytes are the numbers, packed
as_packed : (c : Card) → card_bytes c ≡ packed widths (numbers c)
unfolding card_bytes head_bytes count_bytes report_bytes packed widths numbers
as_packed c = simp (append_assoc, append-nil)

-- ---- a card that is read writes back as the same bytes

module _ (bs : List ℕ) (h : Bytes bs) where
  small4 : (at : ℕ) → number_at bs at 4 < 2 * top binary32
  small4 at = number_at_lt 4 at bs h

  small8 : (at : ℕ) → number_at bs at 8 < 2 * top binary64
  small8 at = number_at_lt 8 at bs h

  mark_is : (a b : Bool) → eqb (number_at bs 0 3) mark ≡ a → eqb (number_at bs 3 2) 1 ≡ b → a && b ≡ true → (number_at bs 0 3 ≡ mark) × (number_at bs 3 2 ≡ 1)
  mark_is true true p q e = (eqb-true (number_at bs 0 3) mark p, eqb-true (number_at bs 3 2) 1 q)
  mark_is true false p q e = absurd (false≢true e)
  mark_is false b p q e = absurd (false≢true e)

  numbers_are : marked 1 bs ≡ true → wrong (card_of bs) ≡ false → numbers (card_of bs) ≡ placed bs
  unfolding numbers placed numbers_from widths card_of marked
  numbers_are m w =
      let n = numbers_in (card_of bs) w in
      let p = mark_is (eqb (number_at bs 0 3) mark) (eqb (number_at bs 3 2) 1) refl refl m in
      rw (p.0, p.1, to_bits-of_bits binary32 (number_at bs 31 4) (small4 31) n.start_quality_lem, to_bits-of_bits binary64 (number_at bs 35 8) (small8 35) n.rate, bits_signed (number_at bs 44 8) (small8 44), to_bits-of_bits binary32 (number_at bs 52 4) (small4 52) n.quality)

  same_bytes : length bs ≡ 56 → marked 1 bs ≡ true → wrong (card_of bs) ≡ false → card_bytes (card_of bs) ≡ bs
  unfolding widths total placed
  same_bytes size m w = as_packed (card_of bs) ∙ ap (packed widths) (numbers_are m w) ∙ pack_numbers widths bs 0 (sym size) h

-- what a reader's answer with a card says of the bytes
pub record Read (bs : List ℕ) (c : Card) : Type 0 where
  pub size : length bs ≡ 56
  pub mark : marked 1 bs ≡ true
  pub fine : wrong (card_of bs) ≡ false
  pub is : card_of bs ≡ c

pub was_read : (bs : List ℕ) (c : Card) → read_answer bs ≡ Ok c → Read bs c
unfolding read_answer read_refusal
was_read bs c e = go (read_refusal bs) refl e
  where
    accepted : read_refusal bs ≡ Ok tt → card_of bs ≡ c → Read bs c
    accepted z e =
        let a = causes.none (not (eqb (length bs) 56)) why.CardLength _ z in
        let b = causes.none (not (marked 1 bs)) why.CardMark _ a.1 in
        let d = causes.none (wrong (card_of bs)) why.CardField _ b.1 in
        record { size = eqb-true (length bs) 56 (not-false _ a.0); mark = not-false _ b.0; fine = d.0; is = e }

    go : (t : Result Unit Refusal) → read_refusal bs ≡ t → result_and t (Ok (card_of bs)) ≡ Ok c → Read bs c
    go (Ok tt) z e = accepted z (cc)
    go (Err k) z e = absurd (cc)

-- what the writer's answer that it is done says of the card and the buffer
pub written_only : (c : Card) (size : ℕ) → write_answer c size ≡ Ok tt → (size ≡ 56) × (wrong c ≡ false)
unfolding write_answer
written_only c size e =
    let a = causes.none (not (eqb size 56)) why.CardLength _ e in
    (eqb-true size 56 (not-false _ a.0), (causes.none (wrong c) why.CardField _ a.1).0)

-- the writer takes a card that is not wrong
pub writes : (c : Card) (out : List ℕ) → length out ≡ 56 → wrong c ≡ false → (write_answer c (length out) ≡ Ok tt) × (buffer_after c out ≡ card_bytes c)
unfolding write_answer buffer_after
writes c out o w = (rw (eq-eqb (length out) 56 o, w), rw (eq-eqb (length out) 56 o, w))

pub read_writes_back : (bs out : List ℕ) (c : Card) → Bytes bs → length out ≡ 56 → read_answer bs ≡ Ok c → (write_answer c (length out) ≡ Ok tt) × (buffer_after c out ≡ bs)
read_writes_back bs out c h o e =
    let r = was_read bs c e in
    let w = writes c out o (rw r.is at r.fine) in
    (w.0, w.1 ∙ ap card_bytes (sym r.is) ∙ same_bytes bs h r.size r.mark r.fine)

-- ---- a card that is written reads back as the same card

-- what the types of a card's fields say
pub record Typed (c : Card) : Type 0 where
  pub mode : c.mode < 256
  pub end : c.end < 256
  pub taken : c.taken < 2 ^ 64
  pub evaluations : c.evaluations < 2 ^ 64
  pub start : c.start < 2 ^ 64
  pub start_quality_lem : T (fits binary32 c.start_quality)
  pub rate : T (fits binary64 c.rate)
  pub slant : c.slant < 256
  pub skip : mag c.skip < 2 ^ 63
  pub quality : T (fits binary32 c.quality)

module _ (c : Card) (t : Typed c) where
  all_fit : Fit widths (numbers c)
  unfolding widths numbers
  all_fit =
      one (lit< tt) (one (lit< tt) (one t.mode (one t.end (one t.taken (one t.evaluations (one t.start
      (one (to_bits-lt binary32 c.start_quality t.start_quality_lem) (one (to_bits-lt binary64 c.rate t.rate) (one t.slant
      (one (bits_small c.skip t.skip) (one (to_bits-lt binary32 c.quality t.quality) none)))))))))))

  back : placed (card_bytes c) ≡ numbers c
  unfolding placed
  back = rw (as_packed c) (numbers_pack [] widths (numbers c) 0 refl all_fit)

  at : (k : ℕ) → get_or (placed (card_bytes c)) k 0 ≡ get_or (numbers c) k 0
  at k = ap (λ (l : List ℕ). get_or l k 0) back

  same_card : card_of (card_bytes c) ≡ c
  unfolding card_of placed numbers_from widths numbers
  same_card =
      rw (at 2, at 3, at 4, at 5, at 6, at 7, at 8, at 9, at 10, at 11, of_bits-to_bits binary32 c.start_quality t.start_quality_lem, of_bits-to_bits binary64 c.rate t.rate, signed_bits c.skip t.skip, of_bits-to_bits binary32 c.quality t.quality)

  marked_card : marked 1 (card_bytes c) ≡ true
  unfolding marked placed numbers_from widths numbers
  marked_card = rw (at 0, at 1)

pub length_card : (c : Card) → length (card_bytes c) ≡ 56
unfolding card_bytes
length_card c = simp (length-append, length_head, length_counts, length_report)

pub written_reads_back : (c : Card) → Typed c → wrong c ≡ false → read_answer (card_bytes c) ≡ Ok c
unfolding read_answer read_refusal
written_reads_back c t w = rw (length_card c, marked_card c t, same_card c t, w)

-- ---- exactly these cards

-- what is read has the types of its fields
pub read_typed : (bs : List ℕ) (c : Card) → Bytes bs → read_answer bs ≡ Ok c → Typed c
unfolding card_of
read_typed bs c h e = rw (was_read bs c e).is at typed
  where
    typed : Typed (card_of bs)
    typed =
        record {
          mode = number_at_lt 1 5 bs h;
          end = number_at_lt 1 6 bs h;
          taken = number_at_lt 8 7 bs h;
          evaluations = number_at_lt 8 15 bs h;
          start = number_at_lt 8 23 bs h;
          start_quality_lem = of_bits-fits binary32 (number_at bs 31 4);
          rate = of_bits-fits binary64 (number_at bs 35 8);
          slant = number_at_lt 1 43 bs h;
          skip = signed_small (number_at bs 44 8) (number_at_lt 8 44 bs h);
          quality = of_bits-fits binary32 (number_at bs 52 4);
        }

-- there are bytes that read as the card
pub record Readable (c : Card) : Type 0 where
  pub bytes : List ℕ
  pub all_bytes : Bytes bytes
  pub reads : read_answer bytes ≡ Ok c

-- a card is not refused with 14 exactly if some bytes read as it
pub accepted_exactly : (c : Card) → Typed c → (wrong c ≡ false → Readable c) × (Readable c → wrong c ≡ false)
accepted_exactly c t = (
  λ w. record { bytes = card_bytes c; all_bytes = rw as_packed (packed_bytes widths (numbers c)); reads = written_reads_back c t w },
  λ r. let a = was_read r.bytes c r.reads in rw a.is at a.fine,
)

-- and the writer takes exactly these cards
pub written_exactly : (c : Card) (out : List ℕ) → Typed c → length out ≡ 56 → (write_answer c (length out) ≡ Ok tt → Readable c) × (Readable c → write_answer c (length out) ≡ Ok tt)
written_exactly c out t o = (
  λ d. (accepted_exactly c t).0 (written_only c (length out) d).1,
  λ r. (writes c out o ((accepted_exactly c t).1 r)).0,
)

-- no two strings of bytes read as one card
pub read_once : (bs bs' : List ℕ) (c : Card) → Bytes bs → Bytes bs' → read_answer bs ≡ Ok c → read_answer bs' ≡ Ok c → bs ≡ bs'
read_once bs bs' c h h' e e' =
    let o = (was_read bs c e).size in
    sym (read_writes_back bs bs c h o e).1 ∙ (read_writes_back bs' bs c h' o e').1
