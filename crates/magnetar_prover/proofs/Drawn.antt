-- Elements that are drawn, as the slices hold them.
-- Assumes nothing.
use mathlib.Core.Path.{◌≡◌, refl, sym, ap, ap₂, ◌∙◌}
use mathlib.Core.List.{List, [], ◌∷◌, ◌++◌, append_assoc, append-nil}
use Prim.Native.Nat.{ℕ, zero, suc, ◌+◌, ◌-◌, ◌*◌, ◌/◌, ◌≤◌}
use native.Mathlib.Omega.{arith}
use lib.ListN.{length, take, drop, drop_of_length-le}
use lib.Seq.{length-take-le, take_at}
use borrow.Rule.Slice.PartMut.{put_mid}
use Rattle.magnetar_field.specs.Gf128.{value}
use Rattle.magnetar_field.specs.Words.{elements}
use Rattle.magnetar_hash.specs.declared.transcript.Transcript.{Transcript}
use Rattle.magnetar_hash.specs.Transcript.{drawn, element, drawn_times, drawn_words}
use Rattle.magnetar_hash.proofs.Draws.{length-drawn}
use Rattle.magnetar_schedule.specs.Stepwise.{Steps, draw_times}
use Rattle.magnetar_prover.specs.InScratch.{steps_in}
use Rattle.magnetar_prover.proofs.Slots.{part-size, mid-upto, fore-length}
use Rattle.magnetar_prover.proofs.Sent.{elements-take, elements-join, steps-eq}

-- n elements drawn at once
pub drawn-times : (n : ℕ) (label : List ℕ) (t : Transcript) (d s : List ℕ)
    → draw_times n label (record { run_state = record { transcript = t; draws = d }; sent = s })
    ≡ record { run_state = record { transcript = drawn_times n t label; draws = d ++ elements (drawn_words n t label) }; sent = s }
unfolding draw_times drawn_times drawn_words elements
drawn-times zero label t d s = steps-eq refl (sym (append-nil d)) refl
drawn-times (suc n) label t d s =
    drawn-times n label (drawn t label) (d ++ (value (element (drawn t label)) ∷ [])) s
    ∙ steps-eq refl (append_assoc d (value (element (drawn t label)) ∷ []) (elements (drawn_words n (drawn t label) label))) refl

-- whatever was sent before
pub drawn-sending : (n a d e : ℕ) (label : List ℕ) (t u : Transcript) (proof draws last : List ℕ)
    → steps_in 0 e u [] last ≡ draw_times n label (steps_in 0 d t [] draws) → steps_in a e u proof last ≡ draw_times n label (steps_in a d t proof draws)
drawn-sending n a d e label t u proof draws last h =
    ap (λ (p : Steps). record { run_state = p.run_state; sent = take a (elements proof) }) (h ∙ drawn-times n label t (take d (elements draws)) [])
    ∙ sym (drawn-times n label t (take d (elements draws)) (take a (elements proof)))

-- n elements drawn into a part
whole : (part last label : List ℕ) (t : Transcript) (n : ℕ) → length part ≡ 2 * n
    → last ≡ drawn_words (length part / 2) t label ++ drop (2 * (length part / 2)) part → last ≡ drawn_words n t label
whole part last label t n l e =
    e
    ∙ (ap (λ (k : ℕ). drawn_words k t label ++ drop (2 * k) part) half
    ∙ (ap (λ (x : List ℕ). drawn_words n t label ++ x) (drop_of_length-le part {i = 2 * n} (omega (arith, l))) ∙ append-nil (drawn_words n t label)))
  where
    half : length part / 2 ≡ n
    half = omega (arith, l)

times : (part label : List ℕ) (t u : Transcript) (n : ℕ) → length part ≡ 2 * n → u ≡ drawn_times (length part / 2) t label → u ≡ drawn_times n t label
times part label t u n l e = e ∙ ap (λ (k : ℕ). drawn_times k t label) half
  where
    half : length part / 2 ≡ n
    half = omega (arith, l)

-- behind d others
module _ (draws last label : List ℕ) (t u : Transcript) (d w n : ℕ) (size : w ≡ 2 * n) (room : 2 * d + w ≤ length draws)
    (e : u ≡ drawn_times (length (take (2 * d + w - 2 * d) (drop (2 * d) draws)) / 2) t label)
    (f : last ≡ drawn_words (length (take (2 * d + w - 2 * d) (drop (2 * d) draws)) / 2) t label
    ++ drop (2 * (length (take (2 * d + w - 2 * d) (drop (2 * d) draws)) / 2)) (take (2 * d + w - 2 * d) (drop (2 * d) draws))) where
  long : length (take (2 * d + w - 2 * d) (drop (2 * d) draws)) ≡ 2 * n
  long = part-size draws (2 * d) w room ∙ size

  is : last ≡ drawn_words n t label
  is = whole (take (2 * d + w - 2 * d) (drop (2 * d) draws)) last label t n long f

  wide : length last ≡ w
  wide = ap length is ∙ (length-drawn n t label ∙ sym size)

  more : take (d + n) (elements (put_mid (2 * d) (2 * d + w - 2 * d) draws last)) ≡ take d (elements draws) ++ elements (drawn_words n t label)
  more =
      elements-take (d + n) (put_mid (2 * d) (2 * d + w - 2 * d) draws last)
      ∙ (ap (λ (i : ℕ). elements (take i (put_mid (2 * d) (2 * d + w - 2 * d) draws last))) ends
      ∙ (ap elements (mid-upto draws last (2 * d) w room wide)
      ∙ (elements-join d (take (2 * d) draws) last (length-take-le (2 * d) draws (omega arith))
      ∙ ap₂ (λ (x y : List ℕ). x ++ elements y) (sym (elements-take d draws)) is)))
    where
      ends : 2 * (d + n) ≡ 2 * d + w
      ends = omega (arith, size)

  pub drawn-times-in : (a : ℕ) (proof : List ℕ)
      → steps_in a (d + n) u proof (put_mid (2 * d) (2 * d + w - 2 * d) draws last) ≡ draw_times n label (steps_in a d t proof draws)
  drawn-times-in a proof =
      steps-eq (times (take (2 * d + w - 2 * d) (drop (2 * d) draws)) label t u n long e) more refl
      ∙ sym (drawn-times n label t (take d (elements draws)) (take a (elements proof)))

-- at the front
module _ (draws last label : List ℕ) (t u : Transcript) (n : ℕ) (room : 2 * n ≤ length draws)
    (e : u ≡ drawn_times (length (take (2 * n) draws) / 2) t label)
    (f : last ≡ drawn_words (length (take (2 * n) draws) / 2) t label ++ drop (2 * (length (take (2 * n) draws) / 2)) (take (2 * n) draws)) where
  first : length (take (2 * n) draws) ≡ 2 * n
  first = length-take-le (2 * n) draws room

  these : last ≡ drawn_words n t label
  these = whole (take (2 * n) draws) last label t n first f

  pub front-size : length last ≡ 2 * n
  front-size = ap length these ∙ length-drawn n t label

  pub front_length : length (last ++ drop (2 * n) draws) ≡ length draws
  front_length = fore-length draws last (2 * n) room front-size

  pub drawn-times-front : (a : ℕ) (proof : List ℕ) → steps_in a n u proof (last ++ drop (2 * n) draws) ≡ draw_times n label (steps_in a 0 t proof draws)
  drawn-times-front a proof =
      steps-eq (times (take (2 * n) draws) label t u n first e)
      (elements-take n (last ++ drop (2 * n) draws) ∙ ap elements (take_at last (drop (2 * n) draws) (2 * n) front-size ∙ these)) refl
      ∙ sym (drawn-times n label t [] (take a (elements proof)))

-- the two taus
module _ (draws one two : List ℕ) (t u r : Transcript) (l m : List ℕ) (b f : ℕ) (room : 2 * (b + f) ≤ length draws)
    (e₁ : u ≡ drawn_times (length (take (2 * b) draws) / 2) t l)
    (f₁ : one ≡ drawn_words (length (take (2 * b) draws) / 2) t l ++ drop (2 * (length (take (2 * b) draws) / 2)) (take (2 * b) draws)) where
  abbrev mid : List ℕ
  mid = one ++ drop (2 * b) draws

  pub drawn-both-times : r ≡ drawn_times (length (take (2 * b + 2 * f - 2 * b) (drop (2 * b) mid)) / 2) u m
      → two ≡ drawn_words (length (take (2 * b + 2 * f - 2 * b) (drop (2 * b) mid)) / 2) u m
      ++ drop (2 * (length (take (2 * b + 2 * f - 2 * b) (drop (2 * b) mid)) / 2)) (take (2 * b + 2 * f - 2 * b) (drop (2 * b) mid))
      → steps_in 0 (b + f) r [] (put_mid (2 * b) (2 * b + 2 * f - 2 * b) mid two) ≡ draw_times f m (draw_times b l (steps_in 0 0 t [] draws))
  drawn-both-times e₂ f₂ =
      drawn-times-in mid two m u r b (2 * f) f refl (omega (arith, room, front_length draws one l t u b (omega (arith, room)) e₁ f₁)) e₂ f₂ 0 []
      ∙ ap (draw_times f m) (drawn-times-front draws one l t u b (omega (arith, room)) e₁ f₁ 0 [])
