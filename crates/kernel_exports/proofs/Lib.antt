pub mod LineSteps
pub mod NameSteps
pub mod FieldSteps
pub mod ExportSteps
pub mod FirstSteps
pub mod SymbolSteps
