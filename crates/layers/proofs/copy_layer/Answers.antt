-- The entries are copied. Assumes nothing.
use native.Mathlib.Omega.{arith}
use Prim.Native.Nat.{◌+◌, ◌-◌}
use borrow.Rule.Slice.PartMut.{post_of, Post-is}
use Rattle.std.proofs.Common.{rules}
use Rattle.layers.proofs.StepLaws.{layer_copied}
use Rattle.layers.proofs.copy_layer.Goals as goal

pub returns : goal.returns
returns c = let a = c.args in
    layer_copied 16 a.layer.base a.layer.size a.layers.now a.slate.now c.copy_from_slice.new.self (omega arith) (omega arith) (search rules) (post_of 16 (16 + a.layer.size - 16) a.slate.now) (Post-is 16 (16 + a.layer.size) a.slate.now (omega arith))
