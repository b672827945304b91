-- a lane for each entrant
mod Seating
-- the ends of lanes and gate meet, one after another
mod Meeting
