-- Demand 3 for cards: two sessions with the same flags taken and the same parity samples, whatever their anchors, cuts and other samples,
-- have cards that say the same, the starts less the anchors. Assumes nothing.
use mathlib.Core.Path.{◌≡◌, refl, sym, ◌∙◌, ap}
use mathlib.Core.Bool.{Bool, true, false}
use mathlib.Core.List.{List, Memᴰ}
use Prim.Native.Nat.{ℕ}
use lib.ListN.{length, get_or}
use lib.Ieee.{Float}
use Rattle.plain.specs.Plain.{ended_phase, opened}
use Rattle.plain.specs.Point as point
use Rattle.plain.specs.Point.{Point, Stage, stage_less, point_less}
use Rattle.plain.specs.Calls.{Call, Answer, run_to}
use Rattle.plain.specs.Lists.{flags_taken, list_reads}
use Rattle.plain.proofs.TwoLists.{silence}
use Rattle.session.specs.declared.Session.{Session}
use Rattle.std.specs.Prelude.{Ok}
use Rattle.session.specs.Hold.{OpenMeets, setup, session_point}
use Rattle.session.specs.Trace.{Trace}
use Rattle.session.proofs.Demand3.{same_point}
use Rattle.card.specs.declared.Card.{Card}
use Rattle.ledger.specs.Ledger.{session_card}
use Rattle.ledger.specs.Entry.{Entry, stage_entry, entry_less, card_ledger, point_ledger, ledger_less}
use Rattle.ledger.specs.Back.{CardBack}
use Rattle.ledger.proofs.ReadsBack.{session_card_lem, no_card_lem}

-- a session that has a card has ended
has_ended : (z : Session) (c : Card) → session_card z ≡ Ok c → ended_phase z.phase ≡ true
has_ended z c e = go (ended_phase z.phase) refl
  where
    go : (b : Bool) → ended_phase z.phase ≡ b → ended_phase z.phase ≡ true
    go true h = h
    go false h = absurd (cc (sym (no_card_lem z h) ∙ e))

-- and the card says its mode and point
record Says (mode : ℕ) (z : Session) (c : Card) : Type 0 where
  mode_is : c.mode ≡ mode
  point : card_ledger c ≡ point_ledger (session_point z)

says : (mode : ℕ) (z : Session) (c : Card) → CardBack mode z → session_card z ≡ Ok c → Says mode z c
says mode z c b e =
    let same : Ok b.card ≡ Ok c = sym b.given ∙ e in
    let its : c ≡ b.card = cc in
    record { mode_is = ap (λ (d : Card). d.mode) its ∙ b.mode; point = ap card_ledger its ∙ b.says }

-- the anchor can be taken off before or after the count is left out
less : (anchor : ℕ) (t : Point) → ledger_less anchor (point_ledger t) ≡ point_ledger (point_less anchor t)
less anchor t = ap (λ (e : Entry). record { entry = e; taken = t.taken; evaluations = t.evaluations }) (go t.stage)
  where
    go : (s : Stage) → entry_less anchor (stage_entry s) ≡ stage_entry (stage_less anchor s)
    go point.searching = refl
    go (point.collecting start windows q) = refl
    go (point.reported start windows q rate slant skip quality) = refl
    go point.unfound = refl
    go (point.cut_short start windows q) = refl

pub same_card : (mode a b : ℕ) (st₁ st₂ : List ℕ) (sm₁ first₁ sm₁' sm₂ first₂ sm₂' : List Float) (s₁ s₂ : Session) → length st₁ ≡ length st₂
    → OpenMeets mode a st₁ sm₁ first₁ (Ok s₁) sm₁' → OpenMeets mode b st₂ sm₂ first₂ (Ok s₂) sm₂'
    → {cs ds : List Call} {as' bs : List Answer} {z₁ z₂ : Session} {fe₁ fe₂ : List ℕ} {se₁ se₂ : List Float}
    → Trace s₁ st₁ sm₁' cs as' z₁ fe₁ se₁ → Trace s₂ st₂ sm₂' ds bs z₂ fe₂ se₂
    → flags_taken (opened (setup mode a (length st₁)) first₁) cs ≡ flags_taken (opened (setup mode b (length st₂)) first₂) ds
    → ((n : ℕ) → Memᴰ n (list_reads (opened (setup mode a (length st₁)) first₁) cs)
    → get_or (run_to (opened (setup mode a (length st₁)) first₁) cs).samples n silence
    ≡ get_or (run_to (opened (setup mode b (length st₂)) first₂) ds).samples n silence)
    → (c₁ c₂ : Card) → session_card z₁ ≡ Ok c₁ → session_card z₂ ≡ Ok c₂
    → (c₁.mode ≡ c₂.mode) × (ledger_less a (card_ledger c₁) ≡ ledger_less b (card_ledger c₂))
same_card mode a b st₁ st₂ sm₁ first₁ sm₁' sm₂ first₂ sm₂' s₁ s₂ size o₁ o₂ {z₁ = z₁} {z₂ = z₂} t₁ t₂ flags parity c₁ c₂ e₁ e₂ =
    let x₁ : Says mode z₁ c₁ = says mode z₁ c₁ (session_card_lem mode a st₁ sm₁ first₁ sm₁' s₁ o₁ t₁ (has_ended z₁ c₁ e₁)) e₁ in
    let x₂ : Says mode z₂ c₂ = says mode z₂ c₂ (session_card_lem mode b st₂ sm₂ first₂ sm₂' s₂ o₂ t₂ (has_ended z₂ c₂ e₂)) e₂ in (
      x₁.mode_is ∙ sym x₂.mode_is,
      ap (ledger_less a) x₁.point
          ∙ less a (session_point z₁)
          ∙ ap point_ledger (same_point mode a b st₁ st₂ sm₁ first₁ sm₁' sm₂ first₂ sm₂' s₁ s₂ size o₁ o₂ t₁ t₂ flags parity)
          ∙ sym (less b (session_point z₂))
          ∙ ap (ledger_less b) (sym x₂.point),
    )
