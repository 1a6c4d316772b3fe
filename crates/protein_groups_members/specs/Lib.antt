-- What a reader has to believe: Members.
pub mod Members
pub mod MemberLaws
