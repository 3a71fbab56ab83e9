-- What a pass learns of a call.
use Rattle.std.proofs.Common.{◌≡◌, ℕ, inl, inr, List, [], ◌∷◌, Option, sym, refl, ap, ◌∙◌, subst, ⊎_elim}
use mir.Val.{bool_byte}
use Rattle.atomic_table.specs.Table.{Me}
use Rattle.dav_machine.specs.declared.answer.Answer.{Answer}
use Rattle.dav_machine.specs.declared.call.Call.{Call}
use Rattle.dav_machine.specs.declared.event.Event.{Event}
use Rattle.dav_machine.specs.Histories.{HistoryEntry}
use Rattle.hub_turn.specs.Cores.{CoreTold}
use Rattle.dav_machine.specs.Turns.{Acted, Stayed, Added}
use Rattle.hub_turn.specs.Views.{Member, SeatView}
use Rattle.hub_turn.specs.Plays.{Grows}
use Rattle.hub_turn.specs.Holding.{HoldsHub, MayGive}
use Rattle.hub_turn.specs.Passes.{IsSeated, first_front}

module _ {H : Type 0} (tells : H → CoreTold) where
  may_of : (v : SeatView) (number count : ℕ) (m : Me (Option H) SeatView) (hub hub' : H) (more : ℕ) → IsSeated number count v → (h : HoldsHub tells v hub m)
      → ((x : Member) → x.number ≡ number → Grows (x ∷ []) (tells hub).history more (tells hub').history) → (tells hub').opening ≡ (tells hub).opening → (tells hub').first ≡ (tells hub).first → MayGive tells m hub' more
  may_of v number count m hub hub' more seated h grows opening first =
      let x : Member = record { number = number; front = first_front v.members } in
      subst (λ (z : Me (Option H) SeatView). MayGive tells z hub' more) (sym h.now) (record {
        ticket = h.ticket;
        one = h.one;
        member = x;
        stage = refl;
        single = seated.single;
        in_hand = refl;
        grows = subst (λ (ms : List Member). Grows ms h.one more (tells hub').history) (sym seated.single) (subst (λ (es : List HistoryEntry). Grows (x ∷ []) es more (tells hub').history) h.stands.is (grows x refl));
        stands = record { opening = opening ∙ h.stands.opening; first = first ∙ h.stands.first; is = refl };
      })

  pub may_act : (v : SeatView) (number count : ℕ) (m : Me (Option H) SeatView) (hub hub' : H) (call : Call) (answer : Answer) → IsSeated number count v → HoldsHub tells v hub m
      → call.pass ≡ number → Acted (tells hub).opening (tells hub).history call answer (tells hub').history → (tells hub').opening ≡ (tells hub).opening → (tells hub').first ≡ (tells hub).first → MayGive tells m hub' (bool_byte answer.own)
  may_act v number count m hub hub' call answer seated h pass acted opening first =
      may_of v number count m hub hub' (bool_byte answer.own) seated h
      (λ x is. ⊎_elim
      (λ (k : Stayed (tells hub).opening (tells hub).history call answer (tells hub').history). inl (ap bool_byte k.not_own, k.same))
      (λ (a : Added (tells hub).opening (tells hub).history call answer (tells hub').history). inr (ap bool_byte a.is_own, (a.entry, a.made, is ∙ sym pass ∙ sym (ap (λ (e : Event). e.pass) a.is_of_call.event.1)))) acted)
      opening first
