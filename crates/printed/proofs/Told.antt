-- Theorems about what specs/Told defines, and what rests on them.
use Rattle.std.specs.Prelude.{ℕ, zero, suc, ◌*◌, ◌≤◌, ◌<◌, ◌≡◌, refl, Bool, true, false, List, [], ◌∷◌, ◌++◌, eqb, replicate}
use Rattle.std.proofs.Math.Path.{sym, ap}
use Rattle.std.proofs.Common.{◌∙◌, subst, append_assoc, append-nil, arith, le-ltb}
use Rattle.std.proofs.Math.Option.{Option, none, some}
use Rattle.std.proofs.lemmas.List.{length-replicate}
use Rattle.types.specs.Kinds.{pick}
use Rattle.cpu.specs.declared.Cpu.{Cpu}
use Rattle.cpu.specs.Fields.{pc_of, a7_of}
use Rattle.status.specs.Status.{get_sr}
use Rattle.memory.specs.World.{World, put_cpu, with_cpu, cpu_of}
use Rattle.unwind.specs.Models.{Returned}
use Rattle.unwind.specs.Rows.{trail_from, Reads}
use Rattle.unwind.proofs.Rows.{walk_reads}
use Rattle.unwind.specs.Returns.{Walk as Walked}
use Rattle.unwind.specs.Unwind.{return_from, walk_from}
use Rattle.nest.specs.View.{opt}
use Rattle.nest.specs.View.{Row as NestRow}
use Rattle.nest.specs.Nest.{rows, Values, values_at, restored_by, restored, after, denied, Alike, SameTale}
use Rattle.nest.specs.Nest.{Returned as Given, returned as given, Told as NestTold}
use Rattle.entered.specs.Pointers.{regs_of}
use Rattle.entered.specs.Machines.{room_of}
use Rattle.rule3.specs.Rows.{rows_here, told}
use Rattle.rule3.specs.Rule3.{give_back, walk, Real}
use Rattle.rule3.proofs.Rule3.{rule3}
use Rattle.lines.specs.Commands.{ret_name}
use Rattle.prints.specs.Prints.{more, state_line, refused_line}
use Rattle.sessions.specs.Walks.{row_texts, refusal_text, walk_text, walked}
use Rattle.sessions.specs.Sessions.{Session, session, say, on_core, state_of, return_told, returned, act, step}
use Rattle.sessions.specs.Printed.{steps}
use Rattle.printed.specs.Steps.{nest_of, Meets, ended, book_of, depth_of}
use Rattle.printed.specs.Follows.{return_bus, standing}
use Rattle.printed.proofs.Follows.{follows}
use Rattle.printed.specs.Told.{rows_text, return_text, returns_text, Told, no_number, rows_text_lem, walk_acts, ret_is, never, SamePrints}

-- where the walk of rule 3 gives rows and no number, the session prints them and no refusal
module _ (w : World) (n : ℕ) (rs : List NestRow) (e : walk n (4 * n) (cpu_of w) (room_of w) ≡ record { rows = rs; number = none }) where
  abbrev x : Walked
  x = walk_from w.core w.store n (replicate (4 * n) 0)

  reads : Reads w.core w.store n (replicate (4 * n) 0)
  reads = walk_reads w.core w.store n (replicate (4 * n) 0) (omega (arith, length-replicate {A = ℕ} (4 * n) 0))

  same_rows_lem : rows_here (trail_from w.core w.store n).rows ≡ rs
  unfolding walk told
  same_rows_lem = ap rows_here (sym reads.rows_are) ∙ ap (λ t. t.rows) e

  no_refusal : (trail_from w.core w.store n).refused ≡ 0
  unfolding walk told
  no_refusal = sym reads.refused_is ∙ no_number x.refused (ap (λ t. t.number) e)

  walk_prints : n ≤ 4096 → walked w.core w.store n ≡ rows_text rs
  unfolding walked walk_text refusal_text
  walk_prints l =
      rw (le-ltb 4096 n l, no_refusal)
      (append-nil (row_texts (trail_from w.core w.store n).rows) ∙ rows_text_lem (trail_from w.core w.store n).rows ∙ ap rows_text same_rows_lem)

-- a return that gives back a record prints its PC, status and A7
ret_prints : (s : Session) (r : Cpu) → give_back (cpu_of s.after) (room_of s.after) ≡ given r
    → step s ret_name ≡ say s (with_cpu s.after r) (return_text (values_at Real (regs_of r)))
unfolding step act returned give_back return_told state_of regs_of put_cpu
ret_prints s r h = rw ret_is (go (eqb x.refused 0) h)
  where
    x : Returned
    x = return_from s.after.core s.after.store

    go : (t : Bool) → pick t (given x.core.cpu) (denied x.refused) ≡ given r
        → say s (on_core s.after x.core) (pick t (state_of x.core 0) (refused_line x.refused)) ≡ say s (with_cpu s.after r) (state_line 0 (pc_of r) (get_sr r) (a7_of r))
    go true f =
        let c : x.core.cpu ≡ r = cc in
        λ i. say s (on_core s.after (record { cpu = c i; bus = return_bus s.after.core s.after.store i })) (state_line 0 (pc_of (c i)) (get_sr (c i)) (a7_of (c i)))
    go false f = let z : ◌≡◌ {A = ℕ} 0 1 = cc in absurd (omega arith)

returns_print : (n : ℕ) (s : Session) (vs : List Values) → restored Real n (cpu_of s.after) (room_of s.after) ≡ some vs
    → (steps s (replicate n ret_name)).printed ≡ more s.printed (returns_text vs)
unfolding restored steps more put_cpu
returns_print zero s vs = λ h. let e : [] ≡ vs = cc in sym (append-nil s.printed) ∙ ap (λ (l : List Values). s.printed ++ returns_text l) e
returns_print (suc n) s vs = go (returns_print n) (give_back (cpu_of s.after) (room_of s.after)) refl
  where
    Under : Type 0
    Under = (t : Session) (us : List Values) → restored Real n (cpu_of t.after) (room_of t.after) ≡ some us → (steps t (replicate n ret_name)).printed ≡ more t.printed (returns_text us)

    rest : Under → (r : Cpu) → give_back (cpu_of s.after) (room_of s.after) ≡ given r → (o : Option (List Values)) → restored Real n r (room_of s.after) ≡ o
        → opt o (λ us. some (values_at Real (regs_of r) ∷ us)) ≡ some vs → (steps (step s ret_name) (replicate n ret_name)).printed ≡ s.printed ++ returns_text vs
    rest u r e none p q = never vs q
    rest u r e (some us) p q =
        let z : values_at Real (regs_of r) ∷ us ≡ vs = cc in
        ap (λ (t : Session). (steps t (replicate n ret_name)).printed) (ret_prints s r e)
        ∙ u (say s (with_cpu s.after r) (return_text (values_at Real (regs_of r)))) us p
        ∙ append_assoc s.printed (return_text (values_at Real (regs_of r))) (returns_text us)
        ∙ ap (λ (l : List Values). s.printed ++ returns_text l) z

    go : Under → (g : Given Cpu) → give_back (cpu_of s.after) (room_of s.after) ≡ g
        → after Real g (λ r. opt (restored Real n r (room_of s.after)) (λ us. some (values_at Real (regs_of r) ∷ us))) ≡ some vs
        → (steps (step s ret_name) (replicate n ret_name)).printed ≡ s.printed ++ returns_text vs
    go u (denied m) e q = never vs q
    go u (given r) e q = rest u r e (restored Real n r (room_of s.after)) refl q

-- ---- the theorem

-- rule 3 of the nest, in the session's own world
nest_told : (s : Session) (ls : List (List ℕ)) → Meets s ls → 0 < depth_of s ls → NestTold Real (standing (steps s ls).after (book_of s ls))
nest_told s ls p d = subst (NestTold Real) (follows s ls) (rule3.tells (nest_of s ls) (cpu_of s.after) (room_of s.after) p d)

pub tells : (s : Session) (ls : List (List ℕ)) → Meets s ls → 0 < depth_of s ls → Told s ls
unfolding more
tells s ls p d =
    let t : NestTold Real (standing (steps s ls).after (book_of s ls)) = nest_told s ls p d in
    record {
      walks = λ m l e.
          walk_acts (steps s ls) l (depth_of s ls) e
          ∙ ap (say (steps s ls) (steps s ls).after) (walk_prints (steps s ls).after (depth_of s ls) (rows (book_of s ls)) (t.walked (4 * depth_of s ls) (omega arith)) m);
      returns = λ bs. returns_print (depth_of s ls) (session (steps s ls).after bs) (restored_by (book_of s ls)) t.returns;
    }

pub settles : (s s' : Session) (ls ls' : List (List ℕ)) → Meets s ls → Meets s' ls' → 0 < depth_of s ls → Alike Real (ended s ls) (ended s' ls') → SamePrints s ls s' ls'
settles s s' ls ls' p q d a =
    let t : NestTold Real (ended s ls) = rule3.tells (nest_of s ls) (cpu_of s.after) (room_of s.after) p d in
    let u : NestTold Real (ended s' ls') = rule3.tells (nest_of s' ls') (cpu_of s'.after) (room_of s'.after) q (subst (λ (n : ℕ). 0 < n) a.depths d) in
    let e : SameTale Real (ended s ls) (ended s' ls') = rule3.settles (nest_of s ls) (nest_of s' ls') (cpu_of s.after) (cpu_of s'.after) (room_of s.after) (room_of s'.after) p q a in
    record { walks = ap rows_text e.same_rows; returns = ap returns_text (some_is _ _ (sym t.returns ∙ e.same_values ∙ u.returns)) }
  where
    some_is : (vs us : List Values) → ◌≡◌ {A = Option (List Values)} (some vs) (some us) → vs ≡ us
    some_is vs us h = cc
