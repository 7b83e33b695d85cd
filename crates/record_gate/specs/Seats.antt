-- The gate and its seats as callers see them.
use Rattle.std.specs.Prelude.{◌≡◌, Bool}
use Rattle.atomic_table.specs.Seated.{TableId}
use Rattle.record_gate.specs.declared.rule.RecordView.{RecordView}
use Rattle.record_gate.specs.declared.rule.Setup.{Setup}

pub record GateState : Type 0 where
  -- which gate it is
  pub id : TableId
  pub setup : Setup

pub record SeatState : Type 0 where
  -- the gate that made it
  pub gate : TableId
  pub view : RecordView
  -- it was told that its lanes have nothing left to do
  pub is_told_off : Bool

-- the view has what the gate was told
pub record IsTold (k : Setup) (v : RecordView) : Type 0 where
  pub start : v.start ≡ k.start
  pub events : v.events ≡ k.events
  pub lanes : v.lane_count ≡ k.lanes

-- the seat was made by this gate
pub record IsSeatOf (g : GateState) (s : SeatState) : Type 0 where
  pub gate : s.gate ≡ g.id
  pub told : IsTold g.setup s.view

-- the lanes that the seat has and may give, and whether it was told off, are as they were
pub record Keeps (s s' : SeatState) : Type 0 where
  pub lanes : s'.view.lanes ≡ s.view.lanes
  pub spare : s'.view.spare ≡ s.view.spare
  pub is_told_off : s'.is_told_off ≡ s.is_told_off
