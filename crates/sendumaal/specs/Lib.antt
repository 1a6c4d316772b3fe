-- What a reader has to believe: GroupCalls, NameCalls and ProteinCalls, beside those of sendumaal_calls. Cases has document 01's examples.
pub mod GroupCalls
pub mod NameCalls
pub mod ProteinCalls
pub mod ProteinCallLaws
pub mod Cases
