-- Theorems about what specs/Rule3 defines, and what rests on them.
use Rattle.std.specs.Prelude.{ℕ, ◌*◌, ◌≤◌, ◌≡◌, true, List, length}
use Rattle.std.proofs.Common.{sym, ap, ◌∙◌, subst}
use Rattle.std.proofs.Math.Option.{none, some}
use Rattle.cpu.specs.declared.Cpu.{Cpu}
use Rattle.memory.specs.declared.Bus.{Bus}
use Rattle.memory.specs.ByteLaws.{AllBytes}
use Rattle.memory.specs.World.{World}
use Rattle.refusals.specs.Refusals.{bad_store, bad_windows}
use Rattle.images.specs.Pushes.{calm}
use Rattle.calls.specs.Calls.{perform}
use Rattle.nest.specs.View.{Row, Back, back, backs, peek, view}
use Rattle.nest.specs.Nest.{untaken, Returned, returned, Walked, Rule3}
use Rattle.nest.specs.Laws.{Return, Laws}
use Rattle.nest.proofs.Tale.{rule3}
use Rattle.entered.specs.Pointers.{regs_of}
use Rattle.entered.specs.Bytes.{mem_of, mem_same}
use Rattle.entered.specs.Machines.{Direct, Room, Passes, InsideRoom, world_of, enter_by, store_calm, windows_calm}
use Rattle.entered.specs.Machines.{machine}
use Rattle.entered.proofs.Machines.{enter_is, entered_law, kind_law, ranges_law, says_taken_lem, says_untaken_lem, says_refused_lem}
use Rattle.entered.specs.Untaken.{Idle, call_idle, SameLent, call_room}
use Rattle.entered.specs.Rule3.{Held, held}

module _ (give_back : Cpu → Room → Returned Cpu) (walk : ℕ → ℕ → Cpu → Room → Walked) where
  -- law `idle`
  idle_law : (c : Direct) (r r' : Cpu) (s s' : Room) → enter_by (world_of r s) c.call ≡ untaken r' s'
      → (view (regs_of r') ≡ view (regs_of r)) × (peek (mem_of s'.bus s'.bytes) ≡ peek (mem_of s.bus s.bytes)) × (InsideRoom r s → InsideRoom r' s') × (Passes r s → Passes r' s')
  idle_law c r r' s s' e =
      let w : World = world_of r s in
      let h : Held w c.call r' s' = held w c.call r' s' (sym (enter_is w c.call c.is) ∙ e) in
      let z : World = (perform w c.call).after in
      let i : Idle r r' = subst (λ (q : Cpu). Idle r q) h.cpu_is (call_idle w c.call c.is h.accepted h.has) in
      let m : SameLent w z = call_room w c.call c.is h.accepted h.has in
      let bs : s'.bytes ≡ s.bytes = ap (λ (q : Room). q.bytes) (sym h.room_is) ∙ m.store in
      let bu : calm s'.bus ≡ calm s.bus = ap (λ (q : Room). calm q.bus) (sym h.room_is) ∙ m.bus in (
        i.view_is_lem,
        ap peek (mem_same s'.bus s.bus s'.bytes bu ∙ ap (λ (l : List ℕ). mem_of s.bus l) bs),
        λ y. record { record_in = (i.inside s y).record_in; bytes = λ k. subst AllBytes (sym bs) ((i.inside s y).bytes k) },
        λ y. record {
          flags = (i.passes s y).flags;
          base = (i.passes s y).base;
          code = (i.passes s y).code;
          store = sym (store_calm s'.bus (length s'.bytes)) ∙ ap (λ (b : Bus). bad_store true b (length s'.bytes)) bu ∙ store_calm s.bus (length s'.bytes) ∙ ap (λ (l : List ℕ). bad_store true s.bus (length l)) bs ∙ y.store;
          windows = sym (windows_calm s'.bus) ∙ ap (λ (b : Bus). bad_windows true b) bu ∙ windows_calm s.bus ∙ y.windows;
          kind = (i.passes s y).kind;
        },
      )

  -- the laws that are left: return and walk
  pub record Left : Type 0 where
    pub returns : (r : Cpu) (s : Room) (x : Back) → Passes r s → InsideRoom r s → back (view (regs_of r)) (peek (mem_of s.bus s.bytes)) ≡ some x → (r' : Cpu) × Return (machine give_back walk) r r' s x
    pub stays_inside : (r r' : Cpu) (s : Room) → give_back r s ≡ returned r' → InsideRoom r s → InsideRoom r' s
    pub walks : (n w : ℕ) (r : Cpu) (s : Room) (rows : List Row) → Passes r s → InsideRoom r s → 4 * n ≤ w
        → backs n (view (regs_of r)) (peek (mem_of s.bus s.bytes)) ≡ some rows → walk n w r s ≡ record { rows = rows; number = none }

  pub laws : Left → Laws (machine give_back walk)
  laws l =
      record {
        ranges = ranges_law give_back walk;
        says_taken = λ c r r' s s' e. says_taken_lem (world_of r s) c.call r' s' (sym (enter_is (world_of r s) c.call c.is) ∙ e);
        says_untaken = λ c r r' s s' e. says_untaken_lem (world_of r s) c.call r' s' (sym (enter_is (world_of r s) c.call c.is) ∙ e);
        says_refused = λ c r s n e. says_refused_lem (world_of r s) c.call n (sym (enter_is (world_of r s) c.call c.is) ∙ e);
        kind_kept = kind_law give_back walk;
        entered = entered_law give_back walk;
        idle = idle_law;
        returns = l.returns;
        stays_inside = l.stays_inside;
        walks = l.walks;
      }

  -- demand 3 for every direct entry of the project, over any return and walk that meet their laws
  pub nest : Left → Rule3 (machine give_back walk)
  nest l = rule3 (machine give_back walk) (laws l)
