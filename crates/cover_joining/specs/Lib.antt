-- Nothing here has to be believed: Joining says what the table of nodes holds, JoiningLaws why the code keeps it so.
pub mod Joining
pub mod JoiningLaws
