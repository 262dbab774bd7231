-- The frames of the rows: their bytes are those of the row, all of them guarded, and the log has room for their events.
use Rattle.std.specs.Prelude.{ℕ, ◌%◌, ◌<◌, ◌≡◌, refl, ◌⊎◌, Bool, true, false, not, eqb, Some, None, Option}
use Rattle.std.proofs.Common.{sym, ◌∙◌, inl, inr, lit≤, lit<}
use Rattle.types.specs.Kinds.{pick, either, is_pre68020, is040, is060}
use Rattle.types.specs.Causes.{cause_number, cause_of}
use Rattle.cpu.specs.declared.Cpu.{Cpu}
use Rattle.cpu.specs.Fields.{kind_of, ppc_of, ir_of, wdata_of, has_fc_override, fc_override_of}
use Rattle.cpu.specs.Fresh.{fresh_cpu, fresh_flow, fresh_fault}
use Rattle.memory.specs.declared.Core.{Core}
use Rattle.status.specs.Status.{compose, get_sr}
use Rattle.formats.specs.Formats.{disabled_frame}
use Rattle.frames.specs.declared.Frame.{Frame}
use Rattle.frames.specs.Frames.{field_at, bus_frame, frame68000, frame8, frame4, frame7, frame11, write_data}
use Rattle.frames.specs.Codes.{is_supervisor, state_code, fault_code, fault_word, ssw020, ssw040, wb3s, fslw060}
use Rattle.numbers.specs.declared.RawCall.{RawCall}
use Rattle.unfaulted.specs.Pushes.{offset_of}
use Rattle.unfaulted.specs.Errors.{all_guarded}
use Rattle.fast_plans.specs.declared.View.{View}
use Rattle.fast_plans.specs.Views.{view_of}
use Rattle.fast_frames.specs.Rows.{row, bus_sized, bus_bytes, bus_row, disabled_row, row_of, bare_cpu, bus_frame_of, frame_of}
use Rattle.fast_frames.specs.declared.rows.FrameRow.{FrameRow}
use Rattle.fast_frames.specs.Entries.{Sized, entry_of}
use Rattle.std.proofs.lemmas.Option.{same_Some, none-some}

-- a frame that the fast way writes
pub record Fitted (f : Frame) (n : ℕ) : Type 0 where
  pub sized : Sized f n
  pub guarded : all_guarded f f.count ≡ true
  pub some : 0 < f.count

-- the frame of a bus error
bus_fits : (c : Cpu) (a : ℕ) (write instruction : Bool) (z cause n : ℕ) → bus_bytes (kind_of c) ≡ Some n → Fitted (bus_frame c a write instruction z cause) n
unfolding bus_bytes bus_frame is_pre68020 all_guarded offset_of field_at frame4 frame7 frame11
bus_fits c a write instruction z cause n h = go (eqb (kind_of c) 1) (either (eqb (kind_of c) 2) (eqb (kind_of c) 10)) (is060 (kind_of c)) (is040 (kind_of c)) h
  where
    frame : Bool → Bool → Bool → Bool → Frame
    frame t u v w =
        pick t (frame68000 (get_sr c) (ppc_of c) (ir_of c % 0x10000) a (fault_word (fault_code c instruction) write instruction))
        (pick (either t u) (frame8 (get_sr c) (ppc_of c) 0x8008)
        (pick v (frame4 (get_sr c) (ppc_of c) a (fslw060 write instruction z (fault_code c instruction) cause))
        (pick w
        (frame7 (get_sr c) (ppc_of c) a (ssw040 (fault_code c instruction) write z cause) (wb3s (fault_code c instruction) write z) (pick write a 0)
        (write_data c write))
        (frame11 (get_sr c) (ppc_of c) (ssw020 (fault_code c instruction) write instruction z) (pick instruction 0 a) (write_data c write) (pick instruction a 0)))))

    bytes : Bool → Bool → Bool → Bool → Option ℕ
    bytes t u v w = pick (either t u) None (pick v (Some 16) (pick w (Some 60) (Some 92)))

    sized : (f : Frame) (k : ℕ) → Fitted f k → Some k ≡ Some n → Fitted f n
    sized f k h e = rw (← same_Some k n e) h

    go : (t u v w : Bool) → bytes t u v w ≡ Some n → Fitted (frame t u v w) n
    go true u v w x = absurd (none-some n x)
    go false true v w x = absurd (none-some n x)
    go false false true w x = sized (frame false false true w) 16 (record { sized = record { bytes = refl; few = lit≤ tt }; guarded = refl; some = lit< tt }) x
    go false false false true x = sized (frame false false false true) 60 (record { sized = record { bytes = refl; few = lit≤ tt }; guarded = refl; some = lit< tt }) x
    go false false false false x = sized (frame false false false false) 92 (record { sized = record { bytes = refl; few = lit≤ tt }; guarded = refl; some = lit< tt }) x

-- a row that is there: its number, the frame's bytes, and that the record keeps no function code
pub record Bussed (x : View) (code : ℕ) (c : RawCall) : Type 0 where
  pub number : eqb c.number 9 ≡ true
  pub clear : eqb code 0 ≡ true
  pub count : ℕ
  pub bytes : bus_bytes x.kind ≡ Some count
  pub same : entry_of x code c ≡ Some (row count 2 50)

pub record Disabled (x : View) (code : ℕ) (c : RawCall) : Type 0 where
  pub other : eqb c.number 9 ≡ false
  pub number : eqb c.number 11 ≡ true
  pub kind : is060 x.kind ≡ true
  pub same : entry_of x code c ≡ Some (row 16 11 34)

pub rowed : (x : View) (code : ℕ) (c : RawCall) (r : FrameRow) → entry_of x code c ≡ Some r → Bussed x code c ⊎ Disabled x code c
unfolding row_of bus_row disabled_row
rowed x code c r e = go (eqb c.number 9) (eqb code 0) (eqb c.number 11) (is060 x.kind) (bus_bytes x.kind) refl refl refl refl refl e
  where
    go : (t u v w : Bool) (n : Option ℕ) → eqb c.number 9 ≡ t → eqb code 0 ≡ u → eqb c.number 11 ≡ v → is060 x.kind ≡ w → bus_bytes x.kind ≡ n
        → pick t (pick u (bus_sized n) None) (pick v (pick w (Some (row 16 11 34)) None) None) ≡ Some r → Bussed x code c ⊎ Disabled x code c
    go true true v w None f g i k b h = absurd (none-some r h)
    go true true v w (Some n) f g i k b h = inl (record { number = f; clear = g; count = n; bytes = b; same = rw (f, g, b) })
    go true false v w n f g i k b h = absurd (none-some r h)
    go false u true true n f g i k b h = inr (record { other = f; number = i; kind = k; same = rw (f, i, k) })
    go false u true false n f g i k b h = absurd (none-some r h)
    go false u false w n f g i k b h = absurd (none-some r h)

bare_kind : (x : View) (wdata : ℕ) → kind_of (bare_cpu x wdata) ≡ x.kind
unfolding kind_of bare_cpu fresh_cpu fresh_flow
bare_kind x wdata = refl

disabled_fits : (sr pc format ea extra : ℕ) → Fitted (disabled_frame sr pc format ea extra) 16
unfolding disabled_frame all_guarded offset_of field_at
disabled_fits sr pc format ea extra = record { sized = record { bytes = refl; few = lit≤ tt }; guarded = refl; some = lit< tt }

pub frame_fits : (x : View) (wdata code : ℕ) (c : RawCall) (r : FrameRow) → entry_of x code c ≡ Some r → Fitted (frame_of x wdata c) r.bytes
unfolding frame_of bus_frame_of
frame_fits x wdata code c r e = go (rowed x code c r e)
  where
    k : kind_of (bare_cpu x wdata) ≡ x.kind
    k = bare_kind x wdata

    sized : (q : FrameRow) → entry_of x code c ≡ Some q → Fitted (frame_of x wdata c) q.bytes → Fitted (frame_of x wdata c) r.bytes
    sized q d h = rw (same_Some q r (sym d ∙ e)) at h

    go : Bussed x code c ⊎ Disabled x code c → Fitted (frame_of x wdata c) r.bytes
    go (inl b) = sized _ b.same (rw b.number (bus_fits (bare_cpu x wdata) c.a (not (eqb c.b 0)) (not (eqb c.c 0)) c.d (cause_number (cause_of (c.e % 256))) b.count (rw k b.bytes)))
    go (inr d) = sized _ d.same (rw d.other (disabled_fits (compose x.flags) x.ppc 0x402C 0 x.ppc))

-- a frame has bytes
pub frame_some : (x : View) (code : ℕ) (c : RawCall) (r : FrameRow) → entry_of x code c ≡ Some r → 0 < r.bytes
unfolding bus_bytes
frame_some x code c r e = go (rowed x code c r e)
  where
    bus_some : (k n : ℕ) → bus_bytes k ≡ Some n → 0 < n
    bus_some k n h = some (is_pre68020 k) (is060 k) (is040 k) h
      where
        some : (t u v : Bool) → pick t None (pick u (Some 16) (pick v (Some 60) (Some 92))) ≡ Some n → 0 < n
        some true u v h = absurd (none-some n h)
        some false true v h = rw (← same_Some 16 n h) (lit< tt)
        some false false true h = rw (← same_Some 60 n h) (lit< tt)
        some false false false h = rw (← same_Some 92 n h) (lit< tt)

    go : Bussed x code c ⊎ Disabled x code c → 0 < r.bytes
    go (inl b) = rw (← same_Some _ r (sym b.same ∙ e)) (bus_some x.kind b.count b.bytes)
    go (inr d) = rw (← same_Some _ r (sym d.same ∙ e)) (lit< tt)

-- ---- the frame of the bare record is that of the record

later : (k n : ℕ) → bus_bytes k ≡ Some n → eqb k 1 ≡ false
unfolding bus_bytes is_pre68020
later k n e = go (eqb k 1) (either (eqb k 2) (eqb k 10)) e
  where
    go : (t u : Bool) → pick (either t u) None (pick (is060 k) (Some 16) (pick (is040 k) (Some 60) (Some 92))) ≡ Some n → t ≡ false
    go true u h = absurd (none-some n h)
    go false u h = refl

pub bare_frame : (m : Core) (a : ℕ) (write instruction : Bool) (z cause n : ℕ) → m.cpu.fault.mmu_fc_override.some ≡ false → bus_bytes (kind_of m.cpu) ≡ Some n
    → bus_frame (bare_cpu (view_of m) (wdata_of m.cpu)) a write instruction z cause ≡ bus_frame m.cpu a write instruction z cause
unfolding bus_frame bare_cpu fresh_cpu fresh_flow fresh_fault view_of kind_of ppc_of ir_of wdata_of get_sr fault_code state_code is_supervisor has_fc_override fc_override_of write_data
bare_frame m a write instruction z cause n e h = rw (later m.cpu.flow.cpu_type n h, e)
