pub use Rattle.plan_write.specs.GraphText
pub use Rattle.plan_write.specs.SheetLine
pub use Rattle.plan_write.specs.SheetText
pub use Rattle.plan_write.specs.SvgText
pub mod SheetFaults
pub mod SheetWhats
pub mod SheetReading
