-- The ledger card (02-change-requests.md, A.1): an ended session as 56 bytes, which cards are refused, and what the writer and the reader do. Definitions only.
use Rattle.std.specs.Prelude.{ℕ, ◌^◌, Bool, false, cond, not, ◌&&◌, ◌||◌, List, [], ◌∷◌, ◌++◌, length, leb, ltb, eqb, ℤ, pos, nat_abs, Float, Result, Ok}
use Rattle.std.specs.Float.{inf, fin, binary32, binary64}
use Rattle.std.specs.Float.Ieee.{lt, le, to_bits, of_bits}
use Rattle.std.specs.Result.{result_and}
use Rattle.std.specs.Cmp.Lexicographic.{pointwise}
use Rattle.limits.specs.declared.Refusal.{Refusal}
use Rattle.limits.specs.declared.Refusal.TheVariants as why
use Rattle.limits.specs.Refusals.{◌⇒◌, first_of, is_allowed}
use Rattle.words.specs.Words.{number_at, bytes_of, bits_of, signed_of}
use Rattle.card.specs.declared.Card.{Card}

-- ---- the bytes: each field's width and number, in order. Numbers are little-endian, floats as bits

-- "SSR", the bytes 0x53 0x53 0x52, as a number
abbrev pub mark : ℕ
mark = 0x525353

-- mark at place 0, version 3, mode 5, end 6
unfoldable pub head_bytes : ℕ → ℕ → ℕ → List ℕ
head_bytes version mode end = bytes_of 3 mark ++ bytes_of 2 version ++ bytes_of 1 mode ++ bytes_of 1 end

-- taken at place 7, evaluations 15, start 23
unfoldable pub count_bytes : Card → List ℕ
count_bytes c = bytes_of 8 c.taken ++ bytes_of 8 c.evaluations ++ bytes_of 8 c.start

-- start quality at place 31, rate 35, slant index 43, skip 44, image quality 52
unfoldable pub report_bytes : Card → List ℕ
report_bytes c =
    bytes_of 4 (to_bits binary32 c.start_quality)
    ++ bytes_of 8 (to_bits binary64 c.rate)
    ++ bytes_of 1 c.slant
    ++ bytes_of 8 (bits_of c.skip)
    ++ bytes_of 4 (to_bits binary32 c.quality)

-- version 1: 56 bytes
unfoldable pub card_bytes : Card → List ℕ
card_bytes c = head_bytes 1 c.mode c.end ++ count_bytes c ++ report_bytes c

-- ---- the fields: each by its place and width

unfoldable pub marked : ℕ → List ℕ → Bool
marked version bs = eqb (number_at bs 0 3) mark && eqb (number_at bs 3 2) version

unfoldable pub card_of : List ℕ → Card
card_of bs =
    record {
      mode = number_at bs 5 1;
      end = number_at bs 6 1;
      taken = number_at bs 7 8;
      evaluations = number_at bs 15 8;
      start = number_at bs 23 8;
      start_quality = of_bits binary32 (number_at bs 31 4);
      rate = of_bits binary64 (number_at bs 35 8);
      slant = number_at bs 43 1;
      skip = signed_of (number_at bs 44 8);
      quality = of_bits binary32 (number_at bs 52 4);
    }

-- ---- what an end lacks. Ends: 0 reported, 1 unfound, 2 cut short

-- a field is filled where some bit of it is set: so -0.0 and a NaN fill theirs
abbrev pub filled : ℕ → Bool
filled n = not (eqb n 0)

-- unfound lacks the start with its quality
unfoldable pub start_filled : Card → Bool
start_filled c = filled c.start || filled (to_bits binary32 c.start_quality)

-- unfound and cut short lack the report: rate, slant (not 255), skip and image quality
unfoldable pub report_filled : Card → Bool
report_filled c = filled (to_bits binary64 c.rate) || not (eqb c.slant 255) || filled (bits_of c.skip) || filled (to_bits binary32 c.quality)

unfoldable pub lacked_filled : Card → Bool
lacked_filled c = eqb c.end 1 && start_filled c || not (eqb c.end 0) && report_filled c

-- ---- the ranges

-- from 0 to 1, as floats compare: -0.0 is, and no NaN
unfoldable pub within : Float → Bool
within x = le (fin false 0 (pos 0)) x && le x (fin false 1 (pos 0))

-- finite and positive
unfoldable pub positive : Float → Bool
positive x = lt (fin false 0 (pos 0)) x && lt x (inf false)

-- not beyond ±2^62
unfoldable pub near : ℤ → Bool
near z = leb (nat_abs z) (2 ^ 62)

-- from 240 to 254: neither an index nor 255 for none
unfoldable pub between : ℕ → Bool
between q = leb 240 q && leb q 254

-- ---- 14: a mode above 15, an end above 2, q from 240 to 254, a filled field that its end lacks, a quality outside 0..1,
-- or in a reported card a rate not finite and positive or a skip beyond ±2^62

unfoldable pub wrong : Card → Bool
wrong c =
    ltb 15 c.mode
    || ltb 2 c.end
    || between c.slant
    || lacked_filled c
    || not (within c.start_quality)
    || not (within c.quality)
    || eqb c.end 0 && (not (positive c.rate) || not (near c.skip))

-- ---- the calls: 12 for another length, then the reader 13 for mark or version, then both 14

-- the writer's answer for a buffer of this size
unfoldable pub write_answer : Card → ℕ → Result Unit Refusal
write_answer c size = first_of ((not (eqb size 56) ⇒ why.CardLength) ∷ (wrong c ⇒ why.CardField) ∷ [])

-- the buffer: the card's bytes, and after a refusal what it held
unfoldable pub buffer_after : Card → List ℕ → List ℕ
buffer_after c out = cond (is_allowed (write_answer c (length out))) (card_bytes c) out

unfoldable pub read_refusal : List ℕ → Result Unit Refusal
read_refusal bs =
    first_of ((not (eqb (length bs) 56) ⇒ why.CardLength) ∷ (not (marked 1 bs) ⇒ why.CardMark) ∷ (wrong (card_of bs) ⇒ why.CardField) ∷ [])

unfoldable pub read_answer : List ℕ → Result Card Refusal
read_answer bs = result_and (read_refusal bs) (Ok (card_of bs))

-- the writer takes the card, and these are the bytes that it writes
unfoldable pub written_as : Card → List ℕ → Bool
written_as c bs = is_allowed (write_answer c 56) && pointwise eqb (card_bytes c) bs
