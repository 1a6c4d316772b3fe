-- What a reader has to believe: Testing, which the contracts of `cover` and `update` cite. ReadyLaws says what a call that passes may count on.
pub mod Testing
pub mod ReadyLaws
